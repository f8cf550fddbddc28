-- What judging a profile answers, and what the walk over its areas does.
use Rattle.std.specs.Prelude.{List, ℕ, Option, None, Some, Result, Ok, Err}
use Rattle.verdict.specs.Check.{first_fault}
use Rattle.profile.specs.declared.Area.{Area}
use Rattle.profile.specs.declared.Profile.{Profile}
use Rattle.profile.specs.Areas.{areas_of, tally, total_of}
use Rattle.profile_rules.specs.declared.Rule.{Rule}
use Rattle.profile_rules.specs.declared.Tallies.{Tallies}
use Rattle.profile_rules.specs.Rules.{config, small_config, table_checks, profile_checks}

-- what all areas are counted for
abbrev pub tallies_of : List Area → Tallies
tallies_of areas = record { configs = tally config areas; small = tally small_config areas; total = total_of areas }

-- nothing is counted of a table that breaks a rule
abbrev pub surveyed_as : Option Rule → Tallies → Result Tallies Rule
surveyed_as None counted = Ok counted
surveyed_as (Some rule) counted = Err rule

unfoldable pub survey_of : List Area → Result Tallies Rule
survey_of areas = surveyed_as (first_fault (table_checks 0 0 areas)) (tallies_of areas)

-- the length of the image that an acceptable profile asks for, or the rule that it breaks
abbrev pub judged_as : Option Rule → ℕ → Result ℕ Rule
judged_as None n = Ok n
judged_as (Some rule) n = Err rule

unfoldable pub judged_of : Profile → Result ℕ Rule
judged_of p = judged_as (first_fault (profile_checks p)) (total_of (areas_of p))
