-- `host_bytes::put_reply` meets its contract. A number and four stores stand one behind the other. Assumes nothing.
use borrow.Author.Rules.{rules}
use Rattle.host_bytes.proofs.Put.{judge_reply_put}
use Rattle.host_bytes.proofs.put_reply.Goals as goal

pub returns : goal.returns
returns c =
    let a = c.args in
    judge_reply_put a.reply a.bytes.now c.write.new.buffer (search rules) c.write.ensures.leaves
