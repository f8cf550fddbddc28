-- `state_bytes::put_line` meets its contract. Three stores and a number stand one behind the other; the number's four bytes are those of the whole count. Assumes nothing.
use Rattle.state_bytes.proofs.Put.{line_put}
use borrow.Author.Rules.{rules}
use Rattle.state_bytes.proofs.put_line.Goals as goal

pub returns : goal.returns
returns c =
    let a = c.args in
    line_put a.line a.held a.bytes.now c.write.new.buffer (search rules) c.write.ensures.leaves
