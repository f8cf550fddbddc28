use mathlib.Core.List.{List}
use mathlib.Core.Path.{◌≡◌}
use Prim.Native.Nat.{ℕ, ◌+◌, ◌*◌, ◌≤◌}
use lib.ListN.{drop}
use Rattle.verdict.specs.Check.{first_fault}
use Rattle.profile.specs.Areas.{tally, total_of}
use Rattle.profile.specs.declared.Area.{Area}
use Rattle.profile_rules.specs.Rules.{table_checks, config, small_config}
use Rattle.profile_rules.proofs.survey.Given as goal

pub record Walked (areas : List Area) (free configs small total i : ℕ) : Type 0 where
  pub fault : first_fault (table_checks 0 0 areas) ≡ first_fault (table_checks i free (drop i areas))
  pub configs-are : configs + tally config (drop i areas) ≡ tally config areas
  pub small-are : small + tally small_config (drop i areas) ≡ tally small_config areas
  pub total-is : total + total_of (drop i areas) ≡ total_of areas
  pub configs-bound : configs ≤ i
  pub small-bound : small ≤ i
  pub total-bound : total ≤ 4294967296 * i

abbrev pub invariant-loop-i : goal.invariant-loop-i
invariant-loop-i l = Walked l.area-items l.free l.configs l.small l.total l.i
