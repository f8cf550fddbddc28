-- `packet::framing::copy_sum` meets its contract. The loop keeps the first i bytes of both slices the same, and their sum. Assumes nothing.
use Rattle.packet.proofs.Building.{copy_end, sum_end}
use Rattle.packet.proofs.framing.copy_sum.Goals as goal

pub returns : goal.returns
returns c =
    let l = c.loop-i in
    let left = c.loop-i-test.false in
    (copy_end l.to c.args.from.now l.i l.invariant.same_length left l.invariant.copied, sum_end c.args.from.now l.i l.total left l.invariant.summed)
