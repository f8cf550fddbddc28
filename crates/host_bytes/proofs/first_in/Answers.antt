-- `host_bytes::first_in` meets its contract. The part is copied to the front of seventeen 0, which stay where there are no bytes. Assumes nothing.
use mathlib.Core.Path.{sym, ◌∙◌}
use lib.ListN.{replicate}
use Rattle.id_code.proofs.Padded.{laid}
use Rattle.packet_fields.proofs.Spelled.{from_there}
use Rattle.host_bytes.proofs.first_in.Goals as goal

pub returns : goal.returns
returns c =
    let lower = c.min-from in
    let lower2 = c.min-end in
    let l = c.args.bytes.now in
    laid l (replicate 17 0) c.copy.new.to 19 17 lower.result lower2.result lower.ensures lower2.ensures
    c.copy.ensures ∙ sym (from_there 17 19 l)
