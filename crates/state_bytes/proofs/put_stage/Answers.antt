-- `state_bytes::put_stage` meets its contract. Two stores and two numbers stand one behind the other. Assumes nothing.
use Rattle.state_bytes.proofs.Put.{stage_put}
use borrow.Author.Rules.{rules}
use Rattle.state_bytes.proofs.put_stage.Goals as goal

pub returns : goal.returns
returns c =
    let a = c.args in
    stage_put a.stage a.bytes.now c.write.new.buffer c.write-2.new.buffer c.stage_number.result c.pulses_of.result c.range_of-range.result
    (search rules) c.stage_number.ensures c.pulses_of.ensures c.range_of-range.ensures c.write.ensures.leaves c.write-2.ensures.leaves
