use Rattle.record_replay.proofs.Playing.{Plays}
use lib.ListN.{length}
use Prim.Native.Nat.{◌-◌}
use Rattle.record_replay.proofs.play.Given as goal

abbrev pub invariant-loop-direction : goal.invariant-loop-direction
invariant-loop-direction l = Plays l.profile l.recording l.initial.image l.image l.head

abbrev pub decreases-loop-direction : goal.decreases-loop-direction
decreases-loop-direction l = length l.recording - l.head.at
