-- Lists by their elements: two joined, a front replaced, a middle replaced. Assumes nothing.
use mathlib.Core.Bool.{Bool, true, false}
use mathlib.Core.List.{List, ◌++◌, append-nil}
use mathlib.Core.Logic.{◌⊎◌, inl, inr, ⊎_elim}
use mathlib.Core.Path.{◌≡◌, refl, ap, ◌∙◌}
use Prim.Native.Nat.{ℕ, ◌+◌, ◌-◌, ◌≤◌, ◌<◌}
use native.Mathlib.Nat.{le_of_lt}
use native.Mathlib.Omega.{arith}
use lib.Dec.{ltb}
use lib.ListN.{length, take, drop, get_or, length-append, length-take, length-drop, drop_of_length-le, get_or-append}
use lib.Seq.{take_all, take_at, drop_at, length-take-le, get_or-take, get_or-drop, get_or-append-add}
use borrow.Author.Tests.{ltb-true, ltb-false}

-- a number is below another, or is not
below_by : (a b : ℕ) (t : Bool) → ltb a b ≡ t → (a < b) ⊎ (b ≤ a)
below_by a b true e = inl (ltb-true a b e)
below_by a b false e = inr (ltb-false a b e)

pub below : (a b : ℕ) → (a < b) ⊎ (b ≤ a)
below a b = below_by a b (ltb a b) refl

-- an element behind the first of two lists
pub get_d_behind : (xs ys : List ℕ) (k d : ℕ) → length xs ≤ k → get_or (xs ++ ys) k d ≡ get_or ys (k - length xs) d
get_d_behind xs ys k d h =
    let e : k ≡ length xs + (k - length xs) = omega arith in
    ap (λ (j : ℕ). get_or (xs ++ ys) j d) e ∙ get_or-append-add xs ys (k - length xs) d

-- a front of n elements, or of all where there are fewer, replaced by as many
module _ (n : ℕ) (p l : List ℕ) (e : length p ≡ length (take n l)) where
  pub take_front : take n (p ++ drop n l) ≡ p
  take_front =
      ⊎_elim
      (λ (h : length l < n).
      let s : length p ≤ n = omega (arith, length-take n l) in
      rw (drop_of_length-le l (le_of_lt h), append-nil) (take_all n p s))
      (λ (h : n ≤ length l). take_at p (drop n l) n (e ∙ length-take-le n l h))
      (below (length l) n)

  pub drop_front : drop n (p ++ drop n l) ≡ drop n l
  drop_front =
      ⊎_elim
      (λ (h : length l < n).
      let s : length p ≤ n = omega (arith, length-take n l) in
      rw (drop_of_length-le l (le_of_lt h), append-nil) (drop_of_length-le p s))
      (λ (h : n ≤ length l). drop_at p (drop n l) n (e ∙ length-take-le n l h))
      (below (length l) n)

-- the elements from place lo up to, not including, hi replaced by as many
unfoldable pub replaced : ℕ → ℕ → List ℕ → List ℕ → List ℕ
replaced lo hi new l = take lo l ++ (new ++ drop (hi - lo) (drop lo l))

module _ (lo hi : ℕ) (new l : List ℕ) (h : lo ≤ hi) (f : hi ≤ length l) (n : length new ≡ hi - lo) where
  head : length (take lo l) ≡ lo
  head = length-take-le lo l (omega arith)

  abbrev rest : List ℕ
  rest = new ++ drop (hi - lo) (drop lo l)

  pub replaced_length : length (replaced lo hi new l) ≡ length l
  unfolding replaced
  replaced_length = rw (length-append, length-append, head, n, length-drop, length-drop) (omega arith)

  pub replaced_before : (k d : ℕ) → k < lo → get_or (replaced lo hi new l) k d ≡ get_or l k d
  unfolding replaced
  replaced_before k d b =
      let s : k < length (take lo l) = omega (arith, head) in
      get_or-append (take lo l) rest d k s ∙ get_or-take lo l k d b

  from_part : (k d : ℕ) → lo ≤ k → get_or (replaced lo hi new l) k d ≡ get_or rest (k - lo) d
  unfolding replaced
  from_part k d a =
      let s : length (take lo l) ≤ k = omega (arith, head) in
      get_d_behind (take lo l) rest k d s ∙ ap (λ (j : ℕ). get_or rest (k - j) d) head

  pub replaced_in : (k d : ℕ) → lo ≤ k → k < hi → get_or (replaced lo hi new l) k d ≡ get_or new (k - lo) d
  replaced_in k d a b =
      let t : k - lo < length new = omega arith in
      from_part k d a ∙ get_or-append new (drop (hi - lo) (drop lo l)) d (k - lo) t

  pub replaced_behind : (k d : ℕ) → hi ≤ k → get_or (replaced lo hi new l) k d ≡ get_or l k d
  replaced_behind k d a =
      let j = k - lo - length new in
      let t : length new ≤ k - lo = omega arith in
      let e : lo + (hi - lo + (k - lo - length new)) ≡ k = omega arith in
      from_part k d (omega arith)
      ∙ get_d_behind new (drop (hi - lo) (drop lo l)) (k - lo) d t
      ∙ get_or-drop (hi - lo) (drop lo l) j d
      ∙ get_or-drop lo l (hi - lo + j) d
      ∙ ap (λ (m : ℕ). get_or l m d) e
