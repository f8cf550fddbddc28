-- Laws of ordered checks: granted exactly when none applies; the first that applies gives the answer. Assumes nothing.
use mathlib.Core.Bool.{true, false}
use mathlib.Core.List.{List, [], ◌∷◌, ◌++◌}
use mathlib.Core.Path.{◌≡◌, refl, sym, ap, ◌∙◌}
use Prim.Native.Nat.{ℕ}
use native.Mathlib.Omega.{arith}
use Rattle.std.specs.Prelude.{Option, None, Some, Result, Ok, Err, is_ok, IsErrAnd}
use Rattle.std.proofs.lemmas.Result.{err_from_is_err_and}
use Rattle.verdict.specs.Check.{Check, ◌gives◌, first_fault, passes, NoneApplies, IsFirst, verdict_of}

module _ {A : Type 0} where
  -- a fault that is found is no "none"
  pub found : {a : A} → Some a ≡ None → ⊥
  found e = let z : ◌≡◌ {A = ℕ} 0 1 = cc in omega arith

  -- granted, so none applies
  pub clear : (cs : List (Check A)) → first_fault cs ≡ None → NoneApplies cs
  unfolding first_fault NoneApplies
  clear [] e = tt
  clear ((true gives a) ∷ later) e = absurd (found e)
  clear ((false gives a) ∷ later) e = (refl, clear later e)

  -- none applies, so granted
  pub grants : (cs : List (Check A)) → NoneApplies cs → first_fault cs ≡ None
  unfolding first_fault NoneApplies
  grants [] n = refl
  grants ((true gives a) ∷ later) n = let z : ◌≡◌ {A = ℕ} 0 1 = cc n.0 in absurd (omega arith)
  grants ((false gives a) ∷ later) n = grants later n.1

  -- the answer is that of the first fault that applies
  pub first : (cs : List (Check A)) (a : A) → first_fault cs ≡ Some a → IsFirst cs a
  unfolding first_fault NoneApplies
  first [] a e = absurd (found (sym e))
  first ((true gives b) ∷ later) a e =
      let same : b ≡ a = cc in
      record { before = []; behind = later; split = ap (λ (x : A). (true gives x) ∷ later) same; quiet = tt }
  first ((false gives b) ∷ later) a e =
      let f = first later a e in
      record { before = (false gives b) ∷ f.before; behind = f.behind; split = ap (λ (l : List (Check A)). (false gives b) ∷ l) f.split; quiet = (refl, f.quiet) }

  behind_quiet : (before : List (Check A)) (a : A) (behind : List (Check A)) → NoneApplies before → first_fault (before ++ (true gives a) ∷ behind) ≡ Some a
  unfolding first_fault NoneApplies
  behind_quiet [] a behind n = refl
  behind_quiet ((true gives b) ∷ before) a behind n = let z : ◌≡◌ {A = ℕ} 0 1 = cc n.0 in absurd (omega arith)
  behind_quiet ((false gives b) ∷ before) a behind n = behind_quiet before a behind n.1

  -- and the first that applies is the answer
  pub first_found : (cs : List (Check A)) (a : A) → IsFirst cs a → first_fault cs ≡ Some a
  first_found cs a f = ap first_fault f.split ∙ behind_quiet f.before a f.behind f.quiet

  -- of two lists of checks, one after the other
  pub clear_left : (xs ys : List (Check A)) → first_fault (xs ++ ys) ≡ None → first_fault xs ≡ None
  unfolding first_fault
  clear_left [] ys e = refl
  clear_left ((true gives a) ∷ xs) ys e = e
  clear_left ((false gives a) ∷ xs) ys e = clear_left xs ys e

  pub clear_right : (xs ys : List (Check A)) → first_fault (xs ++ ys) ≡ None → first_fault ys ≡ None
  unfolding first_fault
  clear_right [] ys e = e
  clear_right ((true gives a) ∷ xs) ys e = absurd (found e)
  clear_right ((false gives a) ∷ xs) ys e = clear_right xs ys e

  pub fault_left : (xs ys : List (Check A)) (a : A) → first_fault xs ≡ Some a → first_fault (xs ++ ys) ≡ Some a
  unfolding first_fault
  fault_left [] ys a e = absurd (found (sym e))
  fault_left ((true gives b) ∷ xs) ys a e = e
  fault_left ((false gives b) ∷ xs) ys a e = fault_left xs ys a e

  pub fault_right : (xs ys : List (Check A)) → first_fault xs ≡ None → first_fault (xs ++ ys) ≡ first_fault ys
  unfolding first_fault
  fault_right [] ys e = refl
  fault_right ((true gives b) ∷ xs) ys e = absurd (found e)
  fault_right ((false gives b) ∷ xs) ys e = fault_right xs ys e

  -- the verdict tells the first fault
  pub granted_clear : (f : Option A) → verdict_of f ≡ Ok tt → f ≡ None
  granted_clear None e = refl
  granted_clear (Some a) e = let z : ◌≡◌ {A = ℕ} 0 1 = cc in absurd (omega arith)

  pub refused_fault : (f : Option A) (a : A) → verdict_of f ≡ Err a → f ≡ Some a
  refused_fault None a e = let z : ◌≡◌ {A = ℕ} 0 1 = cc in absurd (omega arith)
  refused_fault (Some b) a e = let same : b ≡ a = cc in ap Some same

  pub is_granted : (f : Option A) → is_ok (verdict_of f) ≡ passes f
  is_granted None = refl
  is_granted (Some a) = refl

-- two lists of checks, one after the other: the second gives the verdict where the first grants
module _ {A : Type 0} (first-checks then-checks : List (Check A)) where
  pub granted_then : verdict_of (first_fault first-checks) ≡ Ok tt
      → verdict_of (first_fault (first-checks ++ then-checks)) ≡ verdict_of (first_fault then-checks)
  granted_then e = ap verdict_of (fault_right first-checks then-checks (granted_clear (first_fault first-checks) e))

  pub refused_then : (a : A) → verdict_of (first_fault first-checks) ≡ Err a
      → verdict_of (first_fault (first-checks ++ then-checks)) ≡ Err a
  refused_then a e = ap verdict_of (fault_left first-checks then-checks a (refused_fault (first_fault first-checks) a e))

-- what the exit of a `?` answers, whose fault stays the first of all that are asked
pub exits : {A : Type 0} (asked behind : List (Check A)) (answer verdict : Result (Unit {0}) A) {a : A} → IsErrAnd answer (λ e. e ≡ a)
    → verdict ≡ verdict_of (first_fault asked) → verdict ≡ Err a → answer ≡ verdict_of (first_fault (asked ++ behind))
exits asked behind answer verdict left is was =
    let p = err_from_is_err_and answer left in
    rw (p.1, p.2) (sym (refused_then asked behind _ (sym is ∙ was)))
