use Rattle.device_calls.specs.Calls.{buffers}
use Rattle.record_driver.proofs.Playing.{Playing}
use Prim.Native.Nat.{◌-◌}
use lib.ListN.{length}
use Rattle.record_driver.proofs.run.Given as goal

abbrev pub invariant-loop-direction : goal.invariant-loop-direction
invariant-loop-direction l = Playing l.profile (buffers l.initial.image l.initial.receive l.initial.reply) l.script l.initial.st (buffers l.image l.receive l.reply) l.st l.at

abbrev pub decreases-loop-direction : goal.decreases-loop-direction
decreases-loop-direction l = length l.script - l.at
