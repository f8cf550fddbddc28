-- `packet_gather::lacking` meets its contract. What the length bytes were read as tells how many bytes come before the last. Assumes nothing.
use Rattle.packet_gather.proofs.Adding.{lack_cut, lack_read}
use mathlib.Core.Path.{◌∙◌, sym}
use native.Mathlib.Omega.{arith}
use Rattle.packet_gather.proofs.lacking.Goals as goal

pub returns-then-packet-last : goal.returns-then-packet-last
returns-then-packet-last c = lack_read c.args.packet.now _ (sym c.read.ensures ∙ c.in-Some.is)

pub returns-in-None : goal.returns-in-None
returns-in-None c = lack_cut c.args.packet.now (sym c.read.ensures ∙ c.in-None.is)

pub returns-else-packet-last : goal.returns-else-packet-last
returns-else-packet-last c = omega (arith, lack_read c.args.packet.now _ (sym c.read.ensures ∙ c.in-Some.is))
