-- `answer_transfer::accept_data` meets its contract. Each part is the definition's. Assumes nothing.
use mathlib.Core.Path.{◌∙◌}
use Rattle.state.specs.declared.Stage.TheVariants.{Writing}
use Rattle.answer_transfer.proofs.After.{after_all, after_some}
use Rattle.answer_transfer.proofs.Writing.{data_stored}
use Rattle.answer_transfer.proofs.accept_data.Goals as goal
use Rattle.answer_transfer.proofs.accept_data.Goals.{then-range-n, else-range-n}

pub returns : goal.returns
returns c =
    let a = c.args in
    data_stored a.state a.range a.packet.now
    c.info_count-count.ensures
    (elim c.if-range-n.branch [ then-range-n w ↦ w.stage-is ∙ after_all Writing a.range _ w.if-range-n.true | else-range-n w ↦ w.stage-is ∙ after_some Writing a.range _ w.if-range-n.false w.rest.ensures ])
    c.in_stage.ensures
    c.tell.ensures
