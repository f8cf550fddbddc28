-- `packet_fields::byte_at` meets its contract. The test picks the byte or 0, which `get_or` gives too. Assumes nothing.
use mathlib.Core.Path.{refl, sym}
use lib.ListN.{get_or-eq_default}
use Rattle.packet_fields.proofs.byte_at.Goals as goal

pub returns-then-at-packet : goal.returns-then-at-packet
returns-then-at-packet c = refl

pub returns-else-at-packet : goal.returns-else-at-packet
returns-else-at-packet c = sym (get_or-eq_default c.args.packet.now 0 c.if-at-packet.false)
