-- A history of calls: deliveries of any bytes and resets, in any order. What becomes of the machine, and the line's record.
use Rattle.std.specs.Prelude.{◌||◌, cond, List, [], ◌∷◌, ◌++◌, ℕ}
use Rattle.profile.specs.declared.Profile.{Profile}
use Rattle.recording.specs.Format.{Record, host, device, reset}
use Rattle.packet.specs.Frame.{front}
use Rattle.state.specs.State.{fresh_state}
use Rattle.record_exchange.specs.Line.{Entry, exchange, restart}
use Rattle.device_steps.specs.Step.{Machine, step_of}
use Rattle.device_steps.specs.Records.{heard_with, completes, refuses}

pub data Call : Type 0 where
  deliver : List ℕ → Call
  again : Call

-- the machine that starting or resetting gives
abbrev pub fresh_of : Profile → List ℕ → Machine
fresh_of p image = record { image = image; held = []; state = fresh_state p }

-- all bytes of a delivery; those that a reply left unread are delivered again
unfoldable pub hearing : Profile → Machine → List ℕ → Machine
hearing p m [] = m
hearing p m (b ∷ bs) = hearing p (step_of p m b).machine bs

unfoldable pub machine_after : Profile → Machine → List Call → Machine
machine_after p m [] = m
machine_after p m (deliver bs ∷ more) = machine_after p (hearing p m bs) more
machine_after p m (again ∷ more) = machine_after p (fresh_of p m.image) more

-- what a byte adds to the record: the packet that it completes, or the three bytes of an early refusal, with the reply
unfoldable pub entries_at : Profile → Machine → ℕ → List Entry
entries_at p m b = cond (completes m b || refuses m b) (exchange (heard_with m b) (step_of p m b).reply ∷ []) []

unfoldable pub heard_record : Profile → Machine → List ℕ → List Entry
heard_record p m [] = []
heard_record p m (b ∷ bs) = entries_at p m b ++ heard_record p (step_of p m b).machine bs

-- the line's record
unfoldable pub record_of : Profile → Machine → List Call → List Entry
record_of p m [] = []
record_of p m (deliver bs ∷ more) = heard_record p m bs ++ record_of p (hearing p m bs) more
record_of p m (again ∷ more) = restart ∷ record_of p (fresh_of p m.image) more

-- what the replies leave in a reply buffer, each at its front
unfoldable pub replies_over : Profile → Machine → List ℕ → List ℕ → List ℕ
replies_over p m [] buffer = buffer
replies_over p m (b ∷ bs) buffer = replies_over p (step_of p m b).machine bs (front (step_of p m b).reply buffer)

unfoldable pub buffer_after : Profile → Machine → List Call → List ℕ → List ℕ
buffer_after p m [] buffer = buffer
buffer_after p m (deliver bs ∷ more) buffer = buffer_after p (hearing p m bs) more (replies_over p m bs buffer)
buffer_after p m (again ∷ more) buffer = buffer_after p (fresh_of p m.image) more buffer

-- the calls of a recording: what the host sent is delivered, what the device sent then is passed over
unfoldable pub calls_of : List Record → List Call
calls_of [] = []
calls_of (host bs ∷ more) = deliver bs ∷ calls_of more
calls_of (device bs ∷ more) = calls_of more
calls_of (reset ∷ more) = again ∷ calls_of more
