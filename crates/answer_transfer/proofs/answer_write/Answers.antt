-- `answer_transfer::answer_write` meets its contract. The verdict decides, and data that was granted is no more than is left. Assumes nothing.
use mathlib.Core.Path.{sym, ◌∙◌}
use Rattle.answer.proofs.Sending.{answers_as}
use Rattle.answer_transfer.specs.Transfers.{write_decided}
use Rattle.answer_transfer.proofs.Writing.{data_fits, write_answered}
use Rattle.answer_transfer.proofs.answer_write.Goals as goal

pub accept_data-requires : goal.accept_data-requires
accept_data-requires c =
    let a = c.args in (
      data_fits a.profile a.image.now a.range a.packet.now c.check_write.ensures c.in-Ok.is,
      c.requires.0,
      c.requires.1,
    )

pub returns-in-Err : goal.returns-in-Err
unfolding write_decided
returns-in-Err c =
    let a = c.args in
    write_answered a.state a.range a.packet.now a.profile a.image.now
    (sym c.in-Err.is ∙ c.check_write.ensures)
    (answers_as (rw c.in_stage.ensures) c.tell.ensures)

pub returns-in-Ok : goal.returns-in-Ok
returns-in-Ok c =
    let a = c.args in
    write_answered a.state a.range a.packet.now a.profile a.image.now
    (sym c.in-Ok.is ∙ c.check_write.ensures)
    c.accept_data.ensures
