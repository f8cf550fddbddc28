-- `answer_transfer::read_packet` meets its contract. Each part is the definition's. Assumes nothing.
use mathlib.Core.Path.{◌∙◌}
use Rattle.state.specs.declared.Stage.TheVariants.{Reading}
use Rattle.answer_transfer.proofs.After.{after_all, after_some}
use Rattle.answer_transfer.proofs.Reading.{packet_read}
use Rattle.answer_transfer.proofs.read_packet.Goals as goal
use Rattle.answer_transfer.proofs.read_packet.Goals.{then-range-n, else-range-n}

pub returns : goal.returns
returns c =
    let a = c.args in
    packet_read a.profile a.image.now a.state a.range
    c.packet_size-n.ensures.0
    c.fetch-bytes.ensures.bytes
    (elim c.if-range-n.branch [ then-range-n w ↦ w.stage-is ∙ after_all Reading a.range _ w.if-range-n.true | else-range-n w ↦ w.stage-is ∙ after_some Reading a.range _ w.if-range-n.false w.rest.ensures ])
    c.in_stage.ensures
    c.send.ensures
