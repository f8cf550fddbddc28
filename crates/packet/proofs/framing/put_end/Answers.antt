-- `packet::framing::put_end` meets its contract. What the sum of head and the rest lacks to 256 is SUM. Assumes nothing.
use Rattle.std.proofs.Common.{arith, length-set}
use Rattle.packet.proofs.Building.{sum_parts, end_put}
use Rattle.packet.proofs.framing.put_end.Goals as goal

pub bounds-buffer-end-2 : goal.bounds-buffer-end-2
bounds-buffer-end-2 c = simp length-set (omega arith)

pub returns : goal.returns
returns c =
    let a = c.args in
    let s = c.sum in
    let w = c.wrapping_add_u8-total in
    let v = c.wrapping_sub_u8 in
    end_put a.buffer.now _ a.end w.result v.result (sum_parts _ a.rest s.result w.result s.ensures w.ensures.value) v.ensures.value (omega arith)
