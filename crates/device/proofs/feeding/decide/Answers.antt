-- `device::feeding::decide` meets its contract. The stage tells which of the three answers it is, and where a range is under way, that it ends within 32 bits. Assumes nothing.
use Rattle.device.proofs.Steps.{range_at, answer_at}
use Rattle.answer.proofs.Sending.{answers_as}
use Rattle.device.proofs.feeding.decide.Goals as goal

pub answer_write-requires : goal.answer_write-requires
answer_write-requires c = (range_at _ _ c.in-Writing.is c.requires.1, c.requires.2)

pub answer_next-requires : goal.answer_next-requires
answer_next-requires c = (range_at _ _ c.in-Reading.is c.requires.1, c.requires.2)

pub returns-in-Writing : goal.returns-in-Writing
returns-in-Writing c =
    let a = c.args in
    answers_as (answer_at a.profile a.image.now a.state a.packet.now c.in-Writing.is)
    c.answer_write.ensures

pub returns-in-Reading : goal.returns-in-Reading
returns-in-Reading c =
    let a = c.args in
    answers_as (answer_at a.profile a.image.now a.state a.packet.now c.in-Reading.is)
    c.answer_next.ensures
