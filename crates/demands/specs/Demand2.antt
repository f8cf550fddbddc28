-- Demand 2. Every reply byte and every flash byte is what the protocol says: the first fault in the stated order gives the code, and a request is
-- granted exactly when no fault applies.
use Rattle.std.specs.Prelude.{true, List, [], ◌∷◌, ◌++◌, ◌⊎◌, ◌↔◌, ◌≡◌, ℕ, ◌+◌, ◌<◌, length, take, get_or, Some, Ok, Err}
use Rattle.verdict.specs.declared.Reason.{Reason}
use Rattle.verdict.specs.Check.{Check, NoneApplies, IsFirst}
use Rattle.profile.specs.declared.Area.{Area}
use Rattle.profile.specs.declared.Profile.{Profile}
use Rattle.profile.specs.declared.Spot.{Spot}
use Rattle.profile.specs.Areas.{areas_of}
use Rattle.profile.specs.Places.{place_of, offset_in}
use Rattle.packet_fields.specs.declared.Com.TheVariants.{Write, Read}
use Rattle.packet_fields.specs.Fields.{com_number, com_of, code_at, info_of}
use Rattle.packet_reply.specs.Reply.{status_reply}
use Rattle.flash.specs.declared.Act.TheVariants.{Nothing}
use Rattle.flash.specs.Effects.{storing, erasing, stored, erased, blanked}
use Rattle.state.specs.declared.Pulse.{Pulse}
use Rattle.state.specs.declared.Range.{Range}
use Rattle.state.specs.declared.Stage.{Stage}
use Rattle.state.specs.declared.Stage.TheVariants.{Setting, Command}
use Rattle.state.specs.declared.State.{State}
use Rattle.state.specs.declared.Awaited.TheVariants.{Packet}
use Rattle.packet.specs.declared.Kind.{Kind}
use Rattle.state.specs.Awaits.{awaits_of}
use Rattle.check_command.specs.Commands.{command_checks}
use Rattle.check_transfer.specs.Transfer.{write_checks, next_checks}
use Rattle.answer.specs.Answer.{Answer, moved}
use Rattle.answer_command.specs.Grants.{grant_of, answer_command}
use Rattle.answer_transfer.specs.Transfers.{read_packet, write_decided, answer_write, answer_next}
use Rattle.answer_waking.specs.Wake.{wake_of}
use Rattle.device_calls.specs.Calls.{Lent}
use Rattle.device_steps.specs.Step.{Machine, machine_of, settled, refused_early, answer_of, step_of}
use Rattle.device_steps.specs.Feed.{Delivery, feed_of}
use Rattle.device_steps.specs.Records.{heard_with, completes, refuses, Brings}
use Rattle.device.specs.declared.Fed.{Fed}
use Rattle.device.specs.Post.{Ran, Feeds}
use Rattle.record_history.specs.History.{hearing}
use Rattle.demands.specs.Line.{EachIn}

-- two outcomes that a caller cannot tell apart: all is the same but the received bytes beyond the held ones
pub record SameOutcome (after after' : Lent) (r r' : Fed) : Type 0 where
  pub result : r ≡ r'
  pub image : after.image ≡ after'.image
  pub held : take r.state.held after.receive ≡ take r'.state.held after'.receive
  pub reply : after.reply ≡ after'.reply

-- an outcome that feeding may have
pub record Outcome (p : Profile) (st : State) (input : List ℕ) (before : Lent) : Type 0 where
  pub after : Lent
  pub answer : Fed
  pub feeds : Feeds p st input before after answer

-- bytes that are not answered
abbrev pub Unanswered : Profile → Machine → List ℕ → Type 0
Unanswered p m bs = EachIn (λ k b. (step_of p k b).reply ≡ []) p m bs

-- no byte of a delivery is answered: all are heard and consumed
pub record HeardAll (p : Profile) (m : Machine) (bs : List ℕ) (d : Delivery) : Type 0 where
  pub quiet : Unanswered p m bs
  pub is : d ≡ record { machine = hearing p m bs; reply = []; consumed = length bs }

-- it stops behind the first byte that is answered, with that byte's answer; what follows is left unread
pub record StopsBehind (p : Profile) (m : Machine) (bs : List ℕ) (d : Delivery) : Type 0 where
  pub before : List ℕ
  pub byte : ℕ
  pub unread : List ℕ
  pub split : bs ≡ before ++ byte ∷ unread
  pub quiet : Unanswered p m before
  pub answered : 0 < length (step_of p (hearing p m before) byte).reply
  pub is : d
      ≡ record { machine = (step_of p (hearing p m before) byte).machine; reply = (step_of p (hearing p m before) byte).reply; consumed = length before + 1 }

-- an answer goes by its checks: granted exactly when none applies, and then as it is defined; the first fault gives the code, to this request,
-- and changes no byte of the flash; RES has bit 7 in a refusal and in nothing that is granted
pub record GoesBy (checks : List (Check Reason)) (granted : Answer) (request : ℕ) (stage : Stage) (st : State) (a : Answer) : Type 0 where
  pub grants : NoneApplies checks → a ≡ granted
  pub refused : (reason : Reason) → IsFirst checks reason
      → a ≡ record { act = Nothing; state = moved stage st; reply = status_reply request (Err reason) }
  pub told : (code_at a.reply < 128) ↔ NoneApplies checks

pub record Demand2 : Type 0 where
  -- an accepted feed leaves what is defined: state, consumed count, reply length, image, held bytes, reply buffer
  pub leaves : (p : Profile) (st : State) (input : List ℕ) (before after : Lent) (r : Fed) → Feeds p st input before after r → r.refusal ≡ Ok tt
      → Ran (feed_of p (machine_of st before) input) input before after r
  -- whatever is lent there is an outcome that does what feeding promises
  pub some : (p : Profile) (st : State) (input : List ℕ) (before : Lent) → Outcome p st input before
  -- and no second one, accepted or refused
  pub once : (p : Profile) (st : State) (input : List ℕ) (before after after' : Lent) (r r' : Fed)
      → Feeds p st input before after r → Feeds p st input before after' r' → SameOutcome after after' r r'
  -- what is consumed: everything, or all up to the first byte that is answered
  pub consumed : (p : Profile) (m : Machine) (bs : List ℕ) → HeardAll p m bs (feed_of p m bs) ⊎ StopsBehind p m bs (feed_of p m bs)
  -- a byte that completes a packet is answered as its stage says, with the packet's act performed
  pub complete : (p : Profile) (m : Machine) (b : ℕ) → completes m b ≡ true
      → step_of p m b ≡ settled p m (info_of (heard_with m b)) (answer_of p m.image m.state m.state.stage (heard_with m b))
  -- a length outside its range is answered at once
  pub early : (p : Profile) (m : Machine) (b : ℕ) → refuses m b ≡ true → step_of p m b ≡ settled p m [] (refused_early m.state)
  -- any other byte where a packet is awaited is not answered, and changes no byte of the flash
  pub quiet : (p : Profile) (m : Machine) (b : ℕ) (kind : Kind) → awaits_of m.state.stage ≡ Packet kind → (Brings m b → ⊥)
      → ((step_of p m b).reply ≡ []) × ((step_of p m b).machine.image ≡ m.image)
  -- waking up
  pub waking : (p : Profile) (m : Machine) (b : ℕ) (pulse : Pulse) → m.state.stage ≡ Setting pulse
      → step_of p m b ≡ settled p m [] (wake_of p m.image m.state pulse b)
  -- a complete command; a complete packet in a write, and in a read
  pub command : (p : Profile) (image : List ℕ) (st : State) (q : List ℕ)
      → GoesBy (command_checks p st q) (grant_of p image st q (com_of (code_at q))) (code_at q) st.stage st (answer_command p image st q)
  pub write : (p : Profile) (image : List ℕ) (st : State) (r : Range) (q : List ℕ)
      → GoesBy (write_checks (areas_of p) image r q) (write_decided st r q (Ok tt)) (com_number Write) Command st (answer_write p image st r q)
  pub next : (p : Profile) (image : List ℕ) (st : State) (r : Range) (q : List ℕ)
      → GoesBy (next_checks q) (read_packet p image st r) (com_number Read) Command st (answer_next p image st r q)
  -- the effects, at every address that an area has: a byte of the image changes as its address says, and total erase leaves FFh alone
  pub erases : (areas : List Area) (image : List ℕ) (x : ℕ) (spot : Spot) → place_of areas x ≡ Some spot → offset_in spot x < length image → (s e : ℕ)
      → get_or (erased areas s e image) (offset_in spot x) 0 ≡ erasing s e x (get_or image (offset_in spot x) 0)
  pub stores : (areas : List Area) (image : List ℕ) (x : ℕ) (spot : Spot) → place_of areas x ≡ Some spot → offset_in spot x < length image
      → (s : ℕ) (bytes : List ℕ) → get_or (stored areas s bytes image) (offset_in spot x) 0 ≡ storing s bytes x (get_or image (offset_in spot x) 0)
  pub blanks : (image : List ℕ) (i : ℕ) → i < length image → get_or (blanked image) i 0 ≡ 0xFF
