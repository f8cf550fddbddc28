-- `profile_ranges::check_change` meets its contract. Where the units are refused, that stays the first fault. Assumes nothing.
use Rattle.verdict.proofs.FirstFault.{exits}
use Rattle.profile_ranges.specs.Ranges.{change_checks}
use Rattle.profile_ranges.proofs.check_change.Goals as goal

pub returns-in_err-check_units : goal.returns-in_err-check_units
unfolding change_checks
returns-in_err-check_units c = exits _ _ _ _ c.from_residual.ensures.1 c.check_units.ensures c.in_err-check_units.was
