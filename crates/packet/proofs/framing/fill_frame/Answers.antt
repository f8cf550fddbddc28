-- `packet::framing::fill_frame` meets its contract. Head, bytes and end make the packet, each behind the other. Assumes nothing.
use Rattle.std.proofs.Common.{arith}
use Rattle.packet.proofs.Building.{frame_put}
use Rattle.packet.proofs.framing.fill_frame.Goals as goal

pub returns : goal.returns
returns c =
    let a = c.args in
    let h = c.put_head in
    let d = c.copy_sum-rest in
    let e = c.put_end in (
      omega arith,
      frame_put a.kind a.buffer.now h.new.buffer d.new.to e.new.buffer a.bytes.now a.code d.result (omega arith) h.ensures d.ensures.0 d.ensures.1 e.ensures,
    )
