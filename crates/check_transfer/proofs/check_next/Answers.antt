-- `check_transfer::check_next` meets its contract. The request is asked only where the ending is granted, so the ending's fault stays the first. Assumes nothing.
use Rattle.verdict.proofs.FirstFault.{exits}
use Rattle.check_transfer.specs.Transfer.{next_checks}
use Rattle.check_transfer.proofs.check_next.Goals as goal

pub returns-in_err-check_ending : goal.returns-in_err-check_ending
unfolding next_checks
returns-in_err-check_ending c = exits _ _ _ _ c.from_residual.ensures.1 c.check_ending.ensures c.in_err-check_ending.was
