-- `host_bytes::put_head` meets its contract. Three numbers and a store stand one behind the other. Assumes nothing.
use mathlib.Core.Path.{ap}
use Prim.Native.Nat.{ℕ}
use borrow.Author.Rules.{rules}
use Rattle.host_bytes.proofs.Put.{judge_head_put}
use Rattle.host_bytes.proofs.put_head.Goals as goal

pub returns : goal.returns
returns c =
    let a = c.args in
    let own = c.own_numbers-first in
    judge_head_put a.request a.judgement a.bytes.now c.write.new.buffer c.write-2.new.buffer c.write-3.new.buffer
    c.from.result c.request_number.result own.result.0 own.result.1
    (search rules) c.from.ensures.0 c.request_number.ensures (ap (λ (p : ℕ × ℕ). p.0) own.ensures) (ap (λ (p : ℕ × ℕ). p.1) own.ensures)
    c.write.ensures.leaves c.write-2.ensures.leaves c.write-3.ensures.leaves
