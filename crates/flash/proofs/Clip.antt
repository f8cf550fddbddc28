-- A part of the image, clipped to the image's length, is the part that was asked for, and stands where it starts. Assumes nothing.
use mathlib.Core.List.{List}
use mathlib.Core.Logic.{⊎_elim}
use mathlib.Core.Path.{◌≡◌, refl, sym, ap, subst, ◌∙◌}
use Prim.Native.Nat.{ℕ, ◌+◌, ◌-◌, ◌≤◌, ◌<◌, min}
use native.Mathlib.Nat.{le_of_lt, min-eq_left, min-eq_right}
use native.Mathlib.Omega.{arith}
use lib.ListN.{length, take, drop, length-drop, drop_of_length-le}
use lib.Seq.{take_all}
use denote.Ref.{Bor}
use Rattle.numbers.specs.Part.{PartAt}
use Rattle.numbers.proofs.Part.{part_there}
use Rattle.profile.specs.declared.Area.{Area}
use Rattle.profile.specs.declared.Spot.{Spot}
use Rattle.profile.specs.Places.{place_of, offset_in}
use Rattle.flash.specs.Effects.{fetched_at, fetched, fetch_start_at, fetch_start}
use Rattle.std.specs.Prelude.{Option, Some, None}
use Rattle.flash.proofs.Lists.{below}

-- no more can be taken than there are
pub take_most : (m : ℕ) (l : List ℕ) → take (min m (length l)) l ≡ take m l
take_most m l =
    ⊎_elim
    (λ (h : m < length l). ap (λ (k : ℕ). take k l) (min-eq_left (le_of_lt h)))
    (λ (h : length l ≤ m).
    ap (λ (k : ℕ). take k l) (min-eq_right h) ∙ take_all (length l) l (omega arith) ∙ sym (take_all m l h))
    (below m (length l))

-- what stands behind a place is the same where the place is clipped
drop_most : (image : List ℕ) (at from : ℕ) → from ≡ min at (length image) → drop from image ≡ drop at image
drop_most image at from e =
    ⊎_elim
    (λ (h : at < length image). ap (λ (k : ℕ). drop k image) (e ∙ min-eq_left (le_of_lt h)))
    (λ (h : length image ≤ at).
    let w : length image ≤ from = omega arith in
    drop_of_length-le image w ∙ sym (drop_of_length-le image h))
    (below at (length image))

clipped : (image : List ℕ) (at m from : ℕ) → from ≡ min at (length image)
    → take (from + min m (length image - from) - from) (drop from image) ≡ take m (drop at image)
clipped image at m from e =
    let c : from + min m (length image - from) - from ≡ min m (length image - from) = omega arith in
    ap (λ (k : ℕ). take k (drop from image)) (c ∙ ap (min m) (sym (length-drop from image)))
    ∙ take_most m (drop from image)
    ∙ ap (take m) (drop_most image at from e)

-- the bytes from an address of a spot's area on
pub fetch_part : (spot : Spot) (x n : ℕ) (image : List ℕ) (from c : ℕ) → from ≡ min (offset_in spot x) (length image) → c ≡ min n (length image - from)
    → take (from + c - from) (drop from image) ≡ fetched_at (Some spot) x n image
unfolding fetched_at
fetch_part spot x n image from c ef ec = rw ec (clipped image (offset_in spot x) n from ef)

-- where they start
pub fetch_from : (spot : Spot) (x : ℕ) (image : List ℕ) (from : ℕ) → from ≡ min (offset_in spot x) (length image) → fetch_start_at (Some spot) x image ≡ from
unfolding fetch_start_at
fetch_from spot x image from e = sym e

-- the part from an address on, where its place is known
pub fetched_as : {s r : Bor (List ℕ)} (areas : List Area) (x n : ℕ) (found p : Option Spot) → found ≡ place_of areas x → found ≡ p
    → PartAt s (fetch_start_at p x s.now) (fetched_at p x n s.now) r → PartAt s (fetch_start areas x s.now) (fetched areas x n s.now) r
unfolding fetched fetch_start
fetched_as {s} {r} areas x n found p e f part =
    subst (λ (q : Option Spot). PartAt s (fetch_start_at q x s.now) (fetched_at q x n s.now) r) (sym f ∙ e) part

-- the bytes that are fetched are the image's own from the place on where they start
pub fetched_there : (areas : List Area) (x n : ℕ) (image : List ℕ)
    → fetched areas x n image ≡ take (length (fetched areas x n image)) (drop (fetch_start areas x image) image)
unfolding fetched fetched_at fetch_start fetch_start_at
fetched_there areas x n image = by_place (place_of areas x)
  where
    by_place : (p : Option Spot) → fetched_at p x n image ≡ take (length (fetched_at p x n image)) (drop (fetch_start_at p x image) image)
    by_place None = refl
    by_place (Some spot) =
        let at = offset_in spot x in
        let from = min at (length image) in
        part_there n from image (take n (drop at image)) (ap (take n) (drop_most image at from refl))
