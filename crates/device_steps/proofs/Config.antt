-- Where a config area is, and none of fewer than sixteen bytes, the search for it finds one whose first sixteen bytes the image has. Assumes nothing.
use mathlib.Core.Bool.{Bool, true, false}
use mathlib.Core.List.{List, [], ◌∷◌}
use mathlib.Core.Path.{◌≡◌, refl}
use Prim.Native.Nat.{ℕ, ◌+◌, ◌≤◌}
use native.Mathlib.Nat.{zero-add}
use native.Mathlib.Omega.{arith}
use lib.Dec.{ltb, eqb}
use borrow.Author.Tests.{ltb-false}
use Rattle.profile.specs.declared.Area.{Area}
use Rattle.profile.specs.declared.Spot.{Spot}
use Rattle.profile.specs.Areas.{size_of, tally, total_of}
use Rattle.profile_rules.specs.Rules.{config, small_config}
use Rattle.std.specs.Prelude.{Some}
use Rattle.id_code.specs.Identity.{config_from}

-- the config area that is found has sixteen bytes before the areas' end
pub record ConfigThere (base : ℕ) (areas : List Area) : Type 0 where
  pub spot : Spot
  pub found : config_from base areas ≡ Some spot
  pub enough : spot.base + 16 ≤ base + total_of areas

pub config_there : (base : ℕ) (areas : List Area) → 1 ≤ tally config areas → tally small_config areas ≡ 0 → ConfigThere base areas
unfolding tally config small_config config_from
config_there base [] some large = absurd (omega arith)
config_there base (a ∷ more) some large = by (eqb a.koa 2) refl (ltb (size_of a) 16) refl (config_there (base + size_of a) more)
  where
    by : (t : Bool) → eqb a.koa 2 ≡ t → (s : Bool) → ltb (size_of a) 16 ≡ s
        → (1 ≤ tally config more → tally small_config more ≡ 0 → ConfigThere (base + size_of a) more) → ConfigThere base (a ∷ more)
    by true t true s later = let l = simp (t, s) at large in absurd (omega arith)
    by true t false s later =
        let size : 16 ≤ size_of a = ltb-false (size_of a) 16 s in
        record { spot = record { area = a; base = base }; found = rw t refl; enough = omega arith }
    by false t s u later =
        let l = later (simp (t, zero-add) at some) (simp (t, zero-add) at large) in
        record { spot = l.spot; found = rw t l.found; enough = omega (arith, l.enough) }
