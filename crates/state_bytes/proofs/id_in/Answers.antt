-- `state_bytes::id_in` meets its contract. The part is copied to the front of sixteen 0, which stay where there are no bytes. Assumes nothing.
use mathlib.Core.Path.{sym, ◌∙◌}
use Rattle.std.proofs.Math.Nat.{min_comm}
use lib.ListN.{replicate}
use Rattle.packet_fields.proofs.Spelled.{from_there}
use Rattle.id_code.proofs.Padded.{laid}
use Rattle.state_bytes.proofs.id_in.Goals as goal

pub returns : goal.returns
returns c =
    let l = c.args.bytes.now in
    laid l (replicate 16 0) c.copy.new.to 10 16
    c.min-from.result
    c.min-end.result
    (c.min-from.ensures ∙ min_comm _ _)
    (c.min-end.ensures ∙ min_comm _ _)
    c.copy.ensures
    ∙ sym (from_there 16 10 l)
