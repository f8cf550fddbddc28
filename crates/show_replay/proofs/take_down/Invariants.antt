-- Each record of the script ends behind its start.
use Rattle.std.proofs.Common.{length, ◌-◌}
use Rattle.show_replay.proofs.take_down.Given as goal

abbrev pub decreases-loop-direction : goal.decreases-loop-direction
decreases-loop-direction l = length l.script - l.at
