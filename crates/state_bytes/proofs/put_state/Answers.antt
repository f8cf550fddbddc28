-- `state_bytes::put_state` meets its contract. The three parts fill all 33 bytes. Assumes nothing.
use Rattle.state_bytes.proofs.Put.{state_put}
use borrow.Author.Tests.{eq-eqb}
use borrow.Author.Rules.{rules}
use Rattle.state_bytes.proofs.put_state.Goals as goal

pub returns : goal.returns
returns c =
    let a = c.args in
    rw (eq-eqb _ _ c.in-Some.ensures.cases.long) (state_put a.state c.in-Some.bytes.now c.put_stage.new.bytes c.put_id.new.bytes c.put_line.new.bytes
    (search rules) (search rules) c.put_stage.ensures c.put_id.ensures c.put_line.ensures)
