-- Profiles that are known to be acceptable, and profiles that each break one rule, in one table. Assumes nothing.
use mathlib.Core.List.{List, [], ◌∷◌, map}
use mathlib.Core.Path.{◌≡◌, refl}
use lib.ListN.{replicate}
use Rattle.verdict.specs.Check.{first_fault}
use Rattle.profile.specs.declared.Profile.{Profile}
use Rattle.profile.specs.Areas.{no_area, entries, tally}
use Rattle.profile.specs.Bench.{bench, bench_user, bench_config, on_bench, user000, data000, config000}
use Rattle.profile_rules.specs.declared.Rule.TheVariants.{AreaCount, NotAbove, ConfigCount}
use Rattle.std.specs.Prelude.{Ok, Err}
use Rattle.profile_rules.specs.Rules.{acceptance_of, profile_checks, head_checks, area_checks, table_checks, tail_checks, unit_fits, config, small_config, Acceptance}

pub record Example : Type 0 where
  pub profile : Profile
  pub answer : Acceptance

-- source 000's list is not acceptable in the order in which it is printed, and is in the order of its addresses
abbrev pub examples : List Example
examples =
    record { profile = bench; answer = (Ok tt) }
    ∷ record { profile = on_bench 3 (user000 ∷ config000 ∷ data000 ∷ replicate 5 no_area); answer = (Ok tt) }
    ∷ record { profile = on_bench 3 (user000 ∷ data000 ∷ config000 ∷ replicate 5 no_area); answer = Err (NotAbove 2) }
    ∷ record { profile = on_bench 1 (bench_user ∷ bench_config ∷ replicate 6 no_area); answer = Err ConfigCount }
    ∷ record { profile = on_bench 0 (bench_user ∷ bench_config ∷ replicate 6 no_area); answer = Err AreaCount }
    ∷ record { profile = on_bench 9 (bench_user ∷ bench_config ∷ replicate 6 no_area); answer = Err AreaCount }
    ∷ []

pub examples_hold : map (λ (e : Example). acceptance_of (first_fault (profile_checks e.profile))) examples ≡ map (λ (e : Example). e.answer) examples
unfolding first_fault profile_checks head_checks area_checks table_checks tail_checks unit_fits config small_config entries tally
examples_hold = refl
