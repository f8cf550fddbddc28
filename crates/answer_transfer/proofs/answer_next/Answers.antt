-- `answer_transfer::answer_next` meets its contract. The verdict decides. Assumes nothing.
use mathlib.Core.Path.{sym, ◌∙◌}
use Rattle.answer.proofs.Sending.{answers_as}
use Rattle.answer_transfer.specs.Transfers.{next_decided}
use Rattle.answer_transfer.proofs.Reading.{next_answered}
use Rattle.answer_transfer.proofs.answer_next.Goals as goal

pub returns-in-Err : goal.returns-in-Err
unfolding next_decided
returns-in-Err c =
    let a = c.args in
    next_answered a.profile a.image.now a.state a.range a.packet.now
    (sym c.in-Err.is ∙ c.check_next.ensures)
    (answers_as (rw c.in_stage.ensures) c.tell.ensures)

pub returns-in-Ok : goal.returns-in-Ok
unfolding next_decided
returns-in-Ok c =
    let a = c.args in
    next_answered a.profile a.image.now a.state a.range a.packet.now
    (sym c.in-Ok.is ∙ c.check_next.ensures)
    c.read_packet.ensures
