-- `device::feeding::refuse_early` meets its contract. Assumes nothing.
use Rattle.answer.proofs.Sending.{answers_as}
use Rattle.device.proofs.feeding.refuse_early.Goals as goal

pub returns : goal.returns
returns c = answers_as (cc (c.early-code.ensures, c.in_stage.ensures)) c.tell.ensures
