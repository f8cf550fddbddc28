-- Erase and store as effects: inside their range, outside it, and in the part of the image that the code lends. Assumes nothing.
use mathlib.Core.Bool.{cond}
use mathlib.Core.List.{List, [], ◌∷◌}
use mathlib.Core.Logic.{⊎_elim}
use mathlib.Core.Path.{◌≡◌, refl, ◌∙◌}
use Prim.Native.Nat.{ℕ, suc, ◌+◌, ◌-◌, ◌≤◌, ◌<◌}
use native.Mathlib.Omega.{arith}
use lib.ListN.{length, take, drop, get_or, replicate}
use lib.Seq.{drop-cons}
use borrow.Author.Tests.{le-leb, lt-leb, lt-ltb, le-ltb}
use Rattle.numbers.proofs.There.{entry_there}
use Rattle.flash.specs.Effects.{Effect, along, between, erasing, storing}
use Rattle.flash.specs.Meets.{Only}
use Rattle.flash.proofs.Lists.{below}

-- an effect that writes g at the addresses from s up to, not including, t
abbrev writing : ℕ → ℕ → (ℕ → ℕ) → Effect
writing s t g x b = cond (between s t x) (g x) b

module _ (s t : ℕ) (g : ℕ → ℕ) where
  writing_in : (x b : ℕ) → s ≤ x → x < t → writing s t g x b ≡ g x
  writing_in x b h i = rw (le-leb s x h, lt-ltb x t i) refl

  writing_only : Only (writing s t g) s t
  writing_only =
      record {
        under = λ x b h. rw (lt-leb s x h) refl;
        over = λ x b h. ⊎_elim (λ (i : x < s). rw (lt-leb s x i) refl) (λ (i : s ≤ x). rw (le-leb s x i, le-ltb x t h) refl) (below x s);
      }

module _ (s e : ℕ) where
  pub erasing_in : (x b : ℕ) → s ≤ x → x < e + 1 → erasing s e x b ≡ 0xFF
  unfolding erasing
  erasing_in = writing_in s (e + 1) (λ x. 0xFF)

  pub erasing_only : Only (erasing s e) s (e + 1)
  unfolding erasing
  erasing_only = writing_only s (e + 1) (λ x. 0xFF)

module _ (s : ℕ) (vs : List ℕ) where
  pub storing_in : (x b : ℕ) → s ≤ x → x < s + length vs → storing s vs x b ≡ get_or vs (x - s) 0xFF
  unfolding storing
  storing_in = writing_in s (s + length vs) (λ x. get_or vs (x - s) 0xFF)

  -- whatever stands for a byte that vs lacks: inside the range it lacks none
  pub stored_there : (x b : ℕ) → s ≤ x → x < s + length vs → (d : ℕ) → storing s vs x b ≡ get_or vs (x - s) d
  stored_there x b h i d = storing_in x b h i ∙ entry_there vs (x - s) 0xFF d (omega arith)

  pub storing_only : Only (storing s vs) s (s + length vs)
  unfolding storing
  storing_only = writing_only s (s + length vs) (λ x. get_or vs (x - s) 0xFF)

-- bytes in the range that are erased are FFh
pub erase_along : (s e at : ℕ) (l : List ℕ) → s ≤ at → at + length l ≤ e + 1 → along (erasing s e) at l ≡ replicate (length l) 0xFF
unfolding along
erase_along s e at [] h i = refl
erase_along s e at (b ∷ bs) h i = rw (erasing_in s e at b h (omega arith), erase_along s e (at + 1) bs (omega arith) (omega arith)) refl

-- bytes in the range that is stored to are those stored there
pub store_along : (s : ℕ) (vs : List ℕ) (at : ℕ) (l : List ℕ) → s ≤ at → at + length l ≤ s + length vs
    → along (storing s vs) at l ≡ take (length l) (drop (at - s) vs)
unfolding along
store_along s vs at [] h i = refl
store_along s vs at (b ∷ bs) h i =
    let n : at + 1 - s ≡ suc (at - s) = omega arith in
    let w : at - s < length vs = omega arith in
    rw (storing_in s vs at b h (omega arith), store_along s vs (at + 1) bs (omega arith) (omega arith), n, drop-cons vs (at - s) 255 w) refl
