-- An acceptable profile's conditions by name, as the protocol lists them: what later layers rely on.
use Rattle.std.specs.Prelude.{true, List, [], ◌∷◌, ◌≡◌, ℕ, ◌+◌, ◌≤◌, ◌<◌}
use Rattle.profile.specs.declared.Area.{Area}
use Rattle.profile.specs.declared.Profile.{Profile}
use Rattle.profile.specs.Areas.{areas_of, tally, total_of}
use Rattle.profile_rules.specs.Rules.{unit_fits, config, small_config}

-- an area of the table; free is the first address above the areas before it
pub record SoundArea (free : ℕ) (a : Area) : Type 0 where
  pub known_kind : a.koa ≤ 2
  pub in_order : a.sad ≤ a.ead
  pub below_top : a.ead < 0xFFFFFFFF
  pub above : free ≤ a.sad
  pub erase_unit : unit_fits a a.eau ≡ true
  pub write_unit : unit_fits a a.wau ≡ true
  pub short_write : a.wau ≤ 1024

-- each area is sound and lies above those before it
unfoldable pub Ascending : ℕ → List Area → Type 0
Ascending free [] = Unit {0}
Ascending free (a ∷ more) = SoundArea free a × Ascending (a.ead + 1) more

pub record Sound (p : Profile) : Type 0 where
  pub some_area : 1 ≤ p.noa
  pub at_most_eight : p.noa ≤ 8
  pub has_clock : 1 ≤ p.sci
  pub has_top_rate : 1 ≤ p.rmb
  pub areas : Ascending 0 (areas_of p)
  pub one_config : tally config (areas_of p) ≡ 1
  pub no_small_config : tally small_config (areas_of p) ≡ 0
  pub fits_image : total_of (areas_of p) ≤ 16777216
  pub window_in_order : p.window.low ≤ p.window.high
