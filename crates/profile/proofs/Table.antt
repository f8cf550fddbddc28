-- Walking the table from its first entry on. Assumes nothing.
use mathlib.Core.List.{List, ◌∷◌}
use mathlib.Core.Path.{◌≡◌, refl, ap}
use Prim.Native.Nat.{ℕ, zero, suc, ◌+◌, ◌≤◌, ◌<◌, min}
use native.Mathlib.Numerals.{add-one}
use native.Mathlib.Omega.{arith}
use lib.ListN.{length, take, drop, get_or, drop_of_length-le}
use lib.Seq.{drop-cons}
use Rattle.profile.specs.declared.Area.{Area}
use Rattle.profile.specs.declared.Profile.{Profile}
use lib.Dec.{leb}
use borrow.Author.Tests.{leb-true}
use mathlib.Core.Bool.{Bool, true, false, ◌&&◌}
use Rattle.profile.specs.Areas.{entries, areas_of, no_area, tally, inside}

-- the areas from number i on: that area, and those behind it
pub areas_next : (areas : List Area) (i : ℕ) → i < length areas → drop i areas ≡ get_or areas i no_area ∷ drop (i + 1) areas
areas_next areas i h = rw (add-one i) (drop-cons areas i no_area h)

-- entries that the table has: what stands for no entry is none of them
pub entries_there : (table : List Area) (i n : ℕ) → i + n ≤ length table → entries i n table ≡ take n (drop i table)
unfolding entries
entries_there table i zero h = refl
entries_there table i (suc n) h =
    let k : i < length table = omega arith in
    rw (drop-cons table i no_area k, add-one i) (ap (λ (t : List Area). get_or table i no_area ∷ t) (entries_there table (suc i) n (omega arith)))

-- a table of eight entries has all areas, whatever NOA is
pub areas_there : (p : Profile) → length p.areas ≡ 8 → areas_of p ≡ take (min p.noa 8) p.areas
areas_there p h = entries_there p.areas 0 (min p.noa 8) (omega arith)

-- a number of each area, added up over the areas from number i on
module _ (f : Area → ℕ) (areas : List Area) (i : ℕ) where
  pub tally_next : i < length areas → tally f (drop i areas) ≡ f (get_or areas i no_area) + tally f (drop (i + 1) areas)
  unfolding tally
  tally_next h = rw (areas_next areas i h) refl

  pub tally_end : length areas ≤ i → tally f (drop i areas) ≡ 0
  unfolding tally
  tally_end h = rw (drop_of_length-le areas h) refl

-- both halves of a test that is true
pub both : (s t : Bool) → (s && t) ≡ true → (s ≡ true) × (t ≡ true)
both true t e = (refl, e)
both false t e = let z : ◌≡◌ {A = ℕ} 0 1 = cc in absurd (omega arith)

-- an address in an area lies between its ends
pub inside_bounds : (a : Area) (x : ℕ) → inside a x ≡ true → (a.sad ≤ x) × (x ≤ a.ead)
unfolding inside
inside_bounds a x t =
    let e = both (leb a.sad x) (leb x a.ead) t in
    (leb-true a.sad x e.0, leb-true x a.ead e.1)
