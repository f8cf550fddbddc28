-- Demand 1. Any bytes, buffers, profile or state may be handed to a public entry; it ends, and reads and writes only what it was lent: that is
-- what the prover shows of every function, and no entry asks for anything. Bad calls get refusals 1 to 5, which change nothing. A line
-- that brings no complete request gets no reply packet, except the early refusal of a bad length.
use Rattle.std.specs.Prelude.{List, ◌↔◌, ◌≡◌, ℕ, length, Ok, Err}
use Rattle.verdict.specs.Check.{Check, NoneApplies, IsFirst}
use Rattle.profile.specs.declared.Profile.{Profile}
use Rattle.state.specs.declared.State.{State}
use Rattle.state.specs.State.{zero_state}
use Rattle.device_calls.specs.declared.Row.{Row}
use Rattle.device_calls.specs.declared.Started.{Started}
use Rattle.device_calls.specs.Calls.{Lent, number_of, start_rows, feed_rows, Starts, Refusal}
use Rattle.device_steps.specs.Step.{Machine, step_of}
use Rattle.device_steps.specs.Records.{Brings}
use Rattle.device.specs.declared.Fed.{Fed}
use Rattle.device.specs.Post.{Unfed, Feeds}
use Rattle.record_history.specs.History.{Call, record_of}
use Rattle.demands.specs.Line.{IsReply, EachByte, packets_in, answers_in}
use Rattle.demands.specs.Session.{Kept, machine_in, Turn, AllHonest, history_of, got_in}

-- a call is accepted exactly when none of its rows applies, and refused by a row exactly when that is the first that applies
pub record ByRows (rows : List (Check Row)) (refusal : Refusal) : Type 0 where
  pub accepted : (refusal ≡ Ok tt) ↔ NoneApplies rows
  pub refused : (row : Row) → (refusal ≡ Err row) ↔ IsFirst rows row

pub record Demand1 : Type 0 where
  -- starting, whatever the profile and the image: by the rows 4 and 1; refused, it gives the zero state
  pub start : (p : Profile) (image : List ℕ) (r : Started) → Starts p (length image) zero_state r → ByRows (start_rows p (length image)) r.refusal
  pub start_refused : (p : Profile) (image : List ℕ) (r : Started) → Starts p (length image) zero_state r
      → (row : Row) → r.refusal ≡ Err row → r.state ≡ zero_state
  -- resetting, whatever the state: by the same rows; refused, it gives back the state
  pub reset : (p : Profile) (image : List ℕ) (st : State) (r : Started) → Starts p (length image) st r → ByRows (start_rows p (length image)) r.refusal
  pub reset_refused : (p : Profile) (image : List ℕ) (st : State) (r : Started) → Starts p (length image) st r
      → (row : Row) → r.refusal ≡ Err row → r.state ≡ st
  -- feeding, whatever is lent and received: by the rows 4, 1, 5, 2, 3; refused, it gives back the state, 0 consumed and reply length 0, and leaves
  -- every lent byte
  pub feed : (p : Profile) (st : State) (input : List ℕ) (before after : Lent) (r : Fed) → Feeds p st input before after r
      → ByRows (feed_rows p st before) r.refusal
  pub feed_refused : (p : Profile) (st : State) (input : List ℕ) (before after : Lent) (r : Fed) → Feeds p st input before after r
      → (row : Row) → r.refusal ≡ Err row → Unfed row st before after r
  -- the paper's numbers tell refusals apart, and none is that of an accepted call
  pub one_number : (a b : Refusal) → number_of a ≡ number_of b → a ≡ b
  -- in any stage a byte is answered with a packet exactly when it brings a request
  pub answered : (p : Profile) (m : Machine) (b : ℕ) → Brings m b ↔ IsReply (step_of p m b).reply
  -- a whole line on which no byte brings a request has no reply packet, and one without a reply packet has no such byte
  pub silent : (p : Profile) (m : Machine) (calls : List Call)
      → EachByte (λ k b. Brings k b → ⊥) p m calls ↔ EachByte (λ k b. IsReply (step_of p k b).reply → ⊥) p m calls
  -- and as a caller sees it: over any calls, refused ones too, the packets that come back are the replies in the line's record, in order
  pub got : (p : Profile) (k : Kept) (turns : List Turn) → AllHonest p k turns
      → packets_in (got_in turns) ≡ answers_in (record_of p (machine_in k) (history_of turns))
