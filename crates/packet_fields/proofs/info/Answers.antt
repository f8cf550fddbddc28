-- `packet_fields::info` meets its contract. What stands between the first four bytes and the last two is all but six bytes. Assumes nothing.
use mathlib.Core.Path.{refl}
use native.Mathlib.Omega.{arith}
use Rattle.packet_fields.proofs.Laws.{info_none, info_part, info_at_none, info_at_part}
use Rattle.packet_fields.proofs.info.Goals as goal

pub returns-then-packet-lt6 : goal.returns-then-packet-lt6
returns-then-packet-lt6 c =
    let q = c.args.packet.now in
    record { bytes = info_none q c.if-packet-lt6.true; block = refl; start = omega (arith, info_at_none q c.if-packet-lt6.true) }

pub returns : goal.returns
returns c =
    let q = c.args.packet.now in
    record { bytes = info_part q; block = refl; start = omega (arith, info_at_part q c.if-packet-lt6.false) }
