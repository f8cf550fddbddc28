-- `host_bytes::put_judge` meets its contract. The three parts fill all 36 bytes. Assumes nothing.
use borrow.Author.Rules.{rules}
use borrow.Author.Tests.{eq-eqb}
use Rattle.host_bytes.proofs.Put.{judge_put}
use Rattle.host_bytes.proofs.put_judge.Goals as goal

pub returns : goal.returns
returns c =
    let a = c.args in
    rw (eq-eqb _ _ c.in-Some.ensures.cases.long) (judge_put a.judge c.in-Some.bytes.now c.put_head.new.bytes c.put_reply.new.bytes c.put_first.new.bytes
    (search rules) (search rules) c.put_head.ensures c.put_reply.ensures c.put_first.ensures)
