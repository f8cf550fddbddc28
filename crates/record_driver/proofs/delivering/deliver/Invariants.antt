use Rattle.device_calls.specs.Calls.{buffers}
use Rattle.record_driver.proofs.Deliveries.{Hearing}
use lib.ListN.{length}
use Rattle.record_driver.proofs.delivering.deliver.Given as goal

abbrev pub invariant-loop-rest : goal.invariant-loop-rest
invariant-loop-rest l = Hearing l.profile (buffers l.initial.image l.initial.receive l.initial.reply) l.input l.initial.reached (buffers l.image l.receive l.reply) l.reached l.rest

abbrev pub decreases-loop-rest : goal.decreases-loop-rest
decreases-loop-rest l = length l.rest
