-- `record_writer::write_record` meets its contract. A byte that is no direction is refused; another is its direction's number. Assumes nothing.
use Rattle.std.proofs.Common.{arith}
use Rattle.record_writer.proofs.Laws.{direction_refused, written_as}
use Rattle.recording.proofs.Laws.{directed_number}
use Rattle.record_writer.proofs.write_record.Goals as goal

pub returns-in_default : goal.returns-in_default
returns-in_default c = let a = c.args in direction_refused a.direction a.at a.bytes.now a.buffer.now (grind arith)

pub returns : goal.returns
returns c = written_as (directed_number c.args.direction c.in-Ok.which (grind arith)) c.write_directed.ensures
