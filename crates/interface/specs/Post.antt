-- What a call from outside leaves in the bytes that were lent, and the numbers that it answers, by name.
use Rattle.std.specs.Prelude.{cond, List, ◌≡◌, ℕ, length, take, eqb, Option, None, Some, Ok, Err}
use Rattle.profile.specs.declared.Profile.{Profile}
use Rattle.packet.specs.Packet.{payload_of}
use Rattle.packet.specs.Frame.{front}
use Rattle.state.specs.declared.State.{State}
use Rattle.state.specs.State.{fresh_state, zero_state}
use Rattle.profile_bytes.specs.Profile.{profile_in}
use Rattle.state_bytes.specs.State.{state_in, state_bytes, state_over}
use Rattle.device_calls.specs.declared.Row.{Row}
use Rattle.device_calls.specs.Calls.{buffers, row_number, number_of, started_at, Refusal}
use Rattle.device_steps.specs.Step.{machine_of}
use Rattle.device_steps.specs.Feed.{Delivery, feed_of}
use Rattle.interface.specs.Calls.{LentBytes, starting_refusal, feeding_refusal}

-- the numbers that a feed answers
pub record Numbers : Type 0 where
  pub number : ℕ
  pub consumed : ℕ
  pub sent : ℕ

abbrev pub numbers : ℕ → ℕ → ℕ → Numbers
numbers number consumed sent = record { number = number; consumed = consumed; sent = sent }

-- starting: the state that it gives, all zero if it is refused, in 33 bytes
pub record StartedBytes (profile : List ℕ) (n : ℕ) (before after : List ℕ) (r : ℕ) : Type 0 where
  pub number : r ≡ number_of (starting_refusal profile n (length before))
  pub state : after ≡ state_over (started_at (starting_refusal profile n (length before)) (profile_in profile) zero_state) before

-- resetting: a refused one leaves the bytes
abbrev pub reset_over : Refusal → Profile → List ℕ → List ℕ
reset_over (Ok tt) p before = state_bytes (fresh_state p)
reset_over (Err row) p before = before

pub record ResetBytes (profile : List ℕ) (n : ℕ) (before after : List ℕ) (r : ℕ) : Type 0 where
  pub number : r ≡ number_of (starting_refusal profile n (length before))
  pub state : after ≡ reset_over (starting_refusal profile n (length before)) (profile_in profile) before

-- the state in the bytes; the zero state stands for none, and never decides: proofs/Refusals, `state_there`
abbrev pub state_or : Option State → State
state_or None = zero_state
state_or (Some st) = st

-- the delivery that the bytes ask for
abbrev pub delivery_of : List ℕ → LentBytes → List ℕ → Delivery
delivery_of profile l input =
    feed_of (profile_in profile) (machine_of (state_or (state_in l.state)) (buffers l.image l.receive l.reply)) input

-- an accepted feed: d is what is defined; of the receive buffer the held bytes are said, and empty input leaves it
pub record RanBytes (d : Delivery) (input : List ℕ) (before after : LentBytes) (r : Numbers) : Type 0 where
  pub is : r ≡ record { number = 0; consumed = d.consumed; sent = length d.reply }
  pub state : after.state ≡ state_bytes d.machine.state
  pub image : after.image ≡ d.machine.image
  pub held : take d.machine.state.held after.receive ≡ d.machine.held
  pub reply : after.reply ≡ front d.reply before.reply
  pub idle : length input ≡ 0 → after.receive ≡ before.receive

-- a refused feed: its number, two zeros, and every byte as it was
pub record UnfedBytes (row : Row) (before after : LentBytes) (r : Numbers) : Type 0 where
  pub is : r ≡ record { number = row_number row; consumed = 0; sent = 0 }
  pub lent : after ≡ before

abbrev pub FedBytes : Refusal → Delivery → List ℕ → LentBytes → LentBytes → Numbers → Type 0
FedBytes (Ok tt) d input before after r = RanBytes d input before after r
FedBytes (Err row) d input before after r = UnfedBytes row before after r

-- what feeding promises
abbrev pub FeedsBytes : List ℕ → List ℕ → LentBytes → LentBytes → Numbers → Type 0
FeedsBytes profile input before after r =
    FedBytes (feeding_refusal profile before) (delivery_of profile before input) input before after r

-- a payload stands behind start byte and length; 0 and 0 stand for none
pub record Handed (receive : List ℕ) (n r from got : ℕ) : Type 0 where
  pub answer : r ≡ cond (eqb (length (payload_of receive n)) 0) 0 1
  pub start : from ≡ cond (eqb (length (payload_of receive n)) 0) 0 3
  pub count : got ≡ length (payload_of receive n)
