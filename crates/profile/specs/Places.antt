-- The image is the areas' bytes joined in table order: where the byte at an address stands.
use Rattle.std.specs.Prelude.{Bool, cond, List, [], ◌∷◌, ◌≡◌, ℕ, ◌+◌, ◌-◌, ◌≤◌, Option, Some, None}
use Rattle.profile.specs.declared.Area.{Area}
use Rattle.profile.specs.declared.Spot.{Spot}
use Rattle.profile.specs.Areas.{size_of, inside}

-- the first area that holds the address; base is the place of the first area's first byte
unfoldable pub place_from : ℕ → List Area → ℕ → Option Spot
place_from base [] x = None
place_from base (a ∷ more) x = cond (inside a x) (Some (record { area = a; base = base })) (place_from (base + size_of a) more x)

-- the first area that passes a test
unfoldable pub first_from : (Area → Bool) → ℕ → List Area → Option Spot
first_from test base [] = None
first_from test base (a ∷ more) = cond (test a) (Some (record { area = a; base = base })) (first_from test (base + size_of a) more)

abbrev pub place_of : List Area → ℕ → Option Spot
place_of areas x = place_from 0 areas x

-- the place in the image of the byte at an address of a spot's area
abbrev pub offset_in : Spot → ℕ → ℕ
offset_in spot x = spot.base + (x - spot.area.sad)

-- WAU of the area of a place; that of nowhere never decides: device_steps, proofs/Defaults, `unit_there`
abbrev pub unit_at : Option Spot → ℕ
unit_at (Some spot) = spot.area.wau
unit_at None = 0

-- what is known of a place that was found: the address lies in the area, and the sizes of at most eight areas stand before it
abbrev pub Bounded : ℕ → Option Spot → Type 0
Bounded x (Some spot) = (spot.area.sad ≤ x) × (x ≤ spot.area.ead) × (spot.base ≤ 34359738368)
Bounded x None = Unit {0}

-- the sizes of at most eight areas stand before a place that was found
abbrev pub PlacedBelow : Option Spot → Type 0
PlacedBelow (Some spot) = spot.base ≤ 34359738368
PlacedBelow None = Unit {0}

-- the first area that passes a test, whatever the test decides by, and the bound of its place
pub record FirstWhere (Tests : Area → Bool → Type 0) (areas : List Area) (r : Option Spot) : Type 0 where
  pub is : (test : Area → Bool) → ((a : Area) (b : Bool) → Tests a b → b ≡ test a) → r ≡ first_from test 0 areas
  pub bound : PlacedBelow r

-- the place of an address, and its bounds
pub record Located (areas : List Area) (x : ℕ) (r : Option Spot) : Type 0 where
  pub is : r ≡ place_of areas x
  pub bounds : Bounded x r
