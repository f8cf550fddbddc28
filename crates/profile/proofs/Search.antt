-- The search for the first area that passes a test, one area at a time. Assumes nothing.
use mathlib.Core.Bool.{Bool, true, false}
use mathlib.Core.List.{List, [], ◌∷◌}
use mathlib.Core.Path.{◌≡◌, refl}
use Prim.Native.Nat.{ℕ, ◌+◌, ◌≤◌, ◌<◌}
use lib.ListN.{length, drop, get_or, drop_of_length-le}
use Rattle.profile.specs.declared.Area.{Area}
use Rattle.profile.specs.Areas.{no_area, size_of, inside}
use Rattle.profile.proofs.Table.{areas_next}
use Rattle.std.specs.Prelude.{Some, None}
use Rattle.profile.specs.Places.{first_from, place_from}

-- the search at area i
module _ (test : Area → Bool) (areas : List Area) (base i : ℕ) where
  pub first_here : i < length areas → test (get_or areas i no_area) ≡ true
      → first_from test base (drop i areas) ≡ Some (record { area = get_or areas i no_area; base = base })
  unfolding first_from
  first_here h t = rw (areas_next areas i h, t) refl

  pub first_later : (size : ℕ) → i < length areas → test (get_or areas i no_area) ≡ false → size ≡ size_of (get_or areas i no_area)
      → first_from test base (drop i areas) ≡ first_from test (base + size) (drop (i + 1) areas)
  unfolding first_from
  first_later size h t s = rw (areas_next areas i h, t, s) refl

  pub first_end : length areas ≤ i → first_from test base (drop i areas) ≡ None
  unfolding first_from
  first_end h = rw (drop_of_length-le areas h) refl

-- the place of an address is the first area that holds it
pub place_first : (x base : ℕ) (areas : List Area) → first_from (λ (a : Area). inside a x) base areas ≡ place_from base areas x
unfolding first_from place_from
place_first x base [] = refl
place_first x base (a ∷ more) = rw (place_first x (base + size_of a) more) refl
