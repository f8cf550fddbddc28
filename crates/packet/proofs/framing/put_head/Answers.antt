-- `packet::framing::put_head` meets its contract. Its stores are those of the front, one after the other. Assumes nothing.
use Rattle.std.proofs.Common.{◌+◌, ◌∙◌, length-set}
use Rattle.packet.proofs.Building.{head_put}
use Rattle.packet.proofs.framing.put_head.Goals as goal

pub shape_of-buffer : goal.shape_of-buffer
shape_of-buffer c =
    let a = c.args in
    let w = c.write in
    length-set w.new.buffer 3 a.code ∙ w.auto.buffer ∙ length-set a.buffer.now 0 c.from.result

pub returns : goal.returns
returns c =
    let a = c.args in
    let w = c.write in
    let s = c.from in
    head_put a.kind a.buffer.now w.new.buffer s.result a.code (a.n + 1) s.ensures c.requires.1 w.ensures.leaves
