-- The config area is the first area of kind 2. Assumes nothing.
use mathlib.Core.List.{List, [], ◌∷◌}
use mathlib.Core.Path.{◌≡◌, refl}
use Prim.Native.Nat.{ℕ, ◌+◌}
use lib.Dec.{eqb}
use Rattle.profile.specs.declared.Area.{Area}
use Rattle.profile.specs.Areas.{size_of}
use Rattle.profile.specs.Places.{first_from}
use Rattle.id_code.specs.Identity.{config_from}

pub config_first : (base : ℕ) (areas : List Area) → first_from (λ (a : Area). eqb a.koa 2) base areas ≡ config_from base areas
unfolding first_from config_from
config_first base [] = refl
config_first base (a ∷ more) = rw (config_first (base + size_of a) more) refl
