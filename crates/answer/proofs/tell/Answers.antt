-- `answer::tell` meets its contract. The status reply has room, so it stands at the buffer's front. Assumes nothing.
use native.Mathlib.Omega.{arith}
use Rattle.packet_reply.specs.Reply.{status_contents}
use Rattle.answer.proofs.Sending.{is_sent, sent}
use Rattle.answer.proofs.tell.Goals as goal

pub unwrap-count-requires : goal.unwrap-count-requires
unwrap-count-requires c =
    let a = c.args in
    is_sent (status_contents a.request a.verdict) a.reply.now _ _ (omega arith) (omega arith) c.requires c.put_status.ensures

pub returns : goal.returns
returns c =
    let a = c.args in
    sent (status_contents a.request a.verdict) a.reply.now _ _ (omega arith) (omega arith) c.requires c.put_status.ensures
    c.unwrap-count.result a.act a.state c.unwrap-count.ensures
