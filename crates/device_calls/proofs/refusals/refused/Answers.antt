-- `device_calls::refusals::refused` meets its contract. The rows of starting come first, so the one that applies stays the first. Assumes nothing.
use Rattle.verdict.proofs.FirstFault.{exits}
use Rattle.device_calls.proofs.refusals.refused.Goals as goal

pub returns-in_err-unstarted : goal.returns-in_err-unstarted
returns-in_err-unstarted c = exits _ _ _ _ c.from_residual.ensures.1 c.unstarted.ensures c.in_err-unstarted.was
