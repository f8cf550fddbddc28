use Rattle.device_calls.specs.Calls.{buffers}
use Rattle.device.proofs.Turns.{Turned}
use lib.ListN.{length}
use Prim.Native.Nat.{◌-◌}
use mathlib.Core.Path.{◌≡◌}
use Rattle.device.proofs.feeding.turns.Given as goal

abbrev pub invariant-loop-i : goal.invariant-loop-i
invariant-loop-i l =
    Turned l.profile (buffers l.initial.image l.initial.receive l.initial.reply) l.input l.initial.now_state (buffers l.image l.receive l.reply) l.now_state l.i × (l.count ≡ 0)

abbrev pub decreases-loop-i : goal.decreases-loop-i
decreases-loop-i l =
    length l.input - l.i
