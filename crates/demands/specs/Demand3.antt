-- Demand 3. Start from any acceptable profile, kept throughout, and any image that fits it. After any bytes, cut into any deliveries, with resets
-- between, and with nobody else touching the lent buffers or state, the flash equals the starting image with the line's own record replayed.
use Rattle.std.specs.Prelude.{false, List, [], ◌∷◌, ◌++◌, map, ◌⊎◌, ◌≡◌, ℕ, length, take, drop, Ok}
use Rattle.profile.specs.declared.Area.{Area}
use Rattle.profile.specs.declared.Profile.{Profile}
use Rattle.profile.specs.Areas.{areas_of, total_of}
use Rattle.profile_rules.specs.Rules.{Accepted as Acceptable}
use Rattle.packet.specs.declared.Kind.{Kind}
use Rattle.packet.specs.declared.Progress.TheVariants.{Unfit, Complete}
use Rattle.packet.specs.Packet.{progress_of}
use Rattle.packet.specs.Frame.{Roomy}
use Rattle.state.specs.State.{zero_state}
use Rattle.record_exchange.specs.Exchange.{answered_ok}
use Rattle.record_exchange.specs.Line.{Entry, exchange, restart}
use Rattle.record_replay.specs.Replay.{replay}
use Rattle.device_calls.specs.declared.Started.{Started}
use Rattle.device_calls.specs.Calls.{buffers, start_refusal, feed_refusal, Starts}
use Rattle.device_steps.specs.Step.{Machine}
use Rattle.device_steps.specs.Feed.{feed_of}
use Rattle.record_history.specs.History.{Call, deliver, fresh_of, hearing, machine_after, record_of}
use Rattle.demands.specs.Line.{IsRecord}
use Rattle.demands.specs.Session.{Kept, lent_by, machine_in, Turn, AllHonest, kept_after, history_of}

-- a request as it stands in a record: one whole packet of a kind, or the three bytes of a length that was refused
pub record IsRequest (q : List ℕ) : Type 0 where
  pub kind : Kind
  pub is : (progress_of kind q ≡ Complete) ⊎ ((progress_of kind q ≡ Unfit) × (length q ≡ 3))

unfoldable pub OnlyRequests : List Entry → Type 0
OnlyRequests [] = Unit {0}
OnlyRequests (exchange q reply ∷ more) = IsRequest q × OnlyRequests more
OnlyRequests (restart ∷ more) = OnlyRequests more

-- the machine after a history from the start, and the record that it leaves
abbrev pub reached : Profile → List ℕ → List Call → Machine
reached p image calls = machine_after p (fresh_of p image) calls

abbrev pub left : Profile → List ℕ → List Call → List Entry
left p image calls = record_of p (fresh_of p image) calls

-- a reset is accepted, and so is a feed with buffers of 1,030 bytes that hold what is held
pub record NextAccepted (p : Profile) (m : Machine) : Type 0 where
  pub resets : start_refusal p (length m.image) ≡ Ok tt
  pub feeds : (receive reply : List ℕ) → take m.state.held receive ≡ m.held → Roomy receive → Roomy reply
      → feed_refusal p m.state (buffers m.image receive reply) ≡ Ok tt

-- calls from a start on: nobody but them touches what is lent
pub record FromStart (p : Profile) (image receive : List ℕ) (turns : List Turn) : Type 0 where
  pub acceptable : Acceptable p
  pub fits : length image ≡ total_of (areas_of p)
  pub begun : Started
  pub starts : Starts p (length image) zero_state begun
  pub honest : AllHonest p (record { image = image; receive = receive; state = begun.state }) turns

-- what the caller keeps after them
abbrev pub kept_since : {p : Profile} {image receive : List ℕ} {turns : List Turn} → FromStart p image receive turns → Kept
kept_since {p} {image} {receive} {turns} f = kept_after (record { image = image; receive = receive; state = f.begun.state }) turns

pub record Demand3 : Type 0 where
  -- the line's record is one thing: what `record_of` says, and nothing else has its properties
  pub recorded : (p : Profile) → IsRecord p (record_of p)
  pub recorded_once : (p : Profile) (f : Machine → List Call → List Entry) → IsRecord p f → (m : Machine) (calls : List Call) → f m calls ≡ record_of p m calls
  -- every request in it is a whole packet, or three bytes
  pub requests : (p : Profile) → Acceptable p → (image : List ℕ) (calls : List Call) → OnlyRequests (left p image calls)
  -- over histories: the flash is the starting image with the record replayed, and the next call is accepted
  pub flash : (p : Profile) → Acceptable p → (image : List ℕ) → length image ≡ total_of (areas_of p) → (calls : List Call)
      → (reached p image calls).image ≡ replay (areas_of p) image (left p image calls)
  pub accepted : (p : Profile) → Acceptable p → (image : List ℕ) → length image ≡ total_of (areas_of p) → (calls : List Call)
      → NextAccepted p (reached p image calls)
  -- where a delivery is cut makes no difference to the machine and to the record
  pub cut : (p : Profile) (m : Machine) (a b : List ℕ) (more : List Call)
      → (machine_after p m (deliver (a ++ b) ∷ more) ≡ machine_after p m (deliver a ∷ deliver b ∷ more))
      × (record_of p m (deliver (a ++ b) ∷ more) ≡ record_of p m (deliver a ∷ deliver b ∷ more))
  -- a feed hears the bytes that it consumes, and what it leaves unread is heard as if it had come at once when it is fed again
  pub heard : (p : Profile) (m : Machine) (bs : List ℕ) → (feed_of p m bs).machine ≡ hearing p m (take (feed_of p m bs).consumed bs)
  pub unread : (p : Profile) (m : Machine) (bs : List ℕ) → hearing p m bs ≡ hearing p (feed_of p m bs).machine (drop (feed_of p m bs).consumed bs)
  -- over calls: whatever was called, the machine that is kept is that after the history of what was consumed and reset; refused calls are none of it
  pub calls : (p : Profile) (k : Kept) (turns : List Turn) → AllHonest p k turns → machine_in (kept_after k turns) ≡ machine_after p (machine_in k) (history_of turns)
  -- so the image that is kept is the starting image with the line's own record replayed
  pub kept : (p : Profile) (image receive : List ℕ) (turns : List Turn) (f : FromStart p image receive turns)
      → (kept_since f).image ≡ replay (areas_of p) image (left p image (history_of turns))
  -- and with buffers of 1,030 bytes the next feed is accepted
  pub goes_on : (p : Profile) (image receive : List ℕ) (turns : List Turn) (f : FromStart p image receive turns) (reply : List ℕ)
      → Roomy (kept_since f).receive → Roomy reply → feed_refusal p (kept_since f).state (lent_by (kept_since f) reply) ≡ Ok tt
  -- what was not answered OK has no effect in a replay, and neither has a reset
  pub unanswered : (areas : List Area) (image q reply : List ℕ) (es fs : List Entry) → answered_ok q reply ≡ false
      → replay areas image (es ++ exchange q reply ∷ fs) ≡ replay areas image (es ++ fs)
  pub restarts : (areas : List Area) (image : List ℕ) (es fs : List Entry) → replay areas image (es ++ restart ∷ fs) ≡ replay areas image (es ++ fs)
  -- the replay reads only the areas' addresses, requests and replies: units and kinds of areas are not seen
  pub blind : (areas : List Area) (image : List ℕ) (es : List Entry) → replay areas image es ≡ replay (map (λ a. record { koa = 0; sad = a.sad; ead = a.ead; eau = 0; wau = 0 }) areas) image es
