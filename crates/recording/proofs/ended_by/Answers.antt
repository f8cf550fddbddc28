-- `recording::ended_by` meets its contract. The arms are the cases of the definition. Assumes nothing.
use mathlib.Core.Path.{sym, ap}
use Rattle.recording.specs.Recording.{ended_by}
use Rattle.recording.proofs.ended_by.Goals as goal

pub returns-in-Refused : goal.returns-in-Refused
returns-in-Refused c = ap ended_by (sym c.in-Refused.is)
