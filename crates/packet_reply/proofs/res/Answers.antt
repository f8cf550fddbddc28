-- `packet_reply::res` meets its contract. Bit 7 is added only where it is clear. Assumes nothing.
use mathlib.Core.Path.{refl}
use borrow.Author.Tests.{lt-ltb, le-ltb}
use Rattle.packet_reply.proofs.res.Goals as goal

pub returns-then-request-lt128 : goal.returns-then-request-lt128
returns-then-request-lt128 c = rw (c.in-Err.is, lt-ltb _ _ c.if-request-lt128.true) refl

pub returns-else-request-lt128 : goal.returns-else-request-lt128
returns-else-request-lt128 c = rw (c.in-Err.is, le-ltb _ _ c.if-request-lt128.false) refl
