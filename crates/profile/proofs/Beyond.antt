-- No area has an address from 2^32 on: an area's EAD is a u32. Assumes nothing.
use mathlib.Core.List.{List, [], ◌∷◌}
use mathlib.Core.Path.{◌≡◌, refl}
use Prim.Native.Nat.{ℕ, zero, suc, ◌+◌, ◌≤◌, ◌<◌, min}
use native.Mathlib.Omega.{arith}
use lib.ListN.{get_or}
use mir.Val.{Val}
use denote.Array.{each}
use denote.Laws.{Is}
use denote.Shadow.{shadow}
use denote.Struct.Declared.{row}
use Rattle.profile.specs.declared.Area.{Area}
use Rattle.profile.specs.declared.Profile.{Profile}
use Rattle.profile.specs.Areas.{entries, areas_of, no_area, size_of}
use Rattle.profile.specs.Places.{place_from, place_of}
use Rattle.profile.specs.contracts.Area as area
use Rattle.profile.specs.contracts.Profile as profile
use Rattle.std.specs.Prelude.{None}
use Rattle.profile.proofs.Places.{inside_not}

-- every entry of a table ends below an address
abbrev pub EndsBelow : ℕ → List Area → Type 0
EndsBelow s table = (i : ℕ) → (get_or table i no_area).ead < s

-- what owning a profile says of its areas
each_below : (table : List Area) (us : List Val) → shadow (each (area.the_row).Denot (area.the_row).own_val table us)
    → EndsBelow 4294967296 table
each_below [] us h i = omega arith
each_below (a ∷ more) [] h i = absurd h
each_below (a ∷ more) (u ∷ us) h zero = h.0.1.1.1.1.0.1
each_below (a ∷ more) (u ∷ us) h (suc i) = each_below more us h.1 i

pub owned_below : (p : Profile) (vs : List Val) → Is (row profile.the_type) p vs → EndsBelow 4294967296 p.areas
owned_below p vs h = let a = h.1.1.0 in each_below p.areas a.0 a.1.1

-- an address behind the last one of every entry lies in none
place_behind : (s x : ℕ) (table : List Area) → EndsBelow s table → s ≤ x → (n i base : ℕ) → place_from base (entries i n table) x ≡ None
unfolding place_from entries
place_behind s x table below h zero i base = refl
place_behind s x table below h (suc n) i base =
    let a = get_or table i no_area in
    let b = below i in
    rw (inside_not a x (omega arith)) (place_behind s x table below h n (i + 1) (base + size_of a))

pub place_beyond : (p : Profile) (x : ℕ) → EndsBelow 4294967296 p.areas → 4294967296 ≤ x → place_of (areas_of p) x ≡ None
place_beyond p x below h = place_behind 4294967296 x p.areas below h (min p.noa 8) 0 0
