-- The host's end: requests are built into packets of the device's own, replies are judged and nothing passes by default, and both ends together.
use Rattle.std.specs.Prelude.{true, false, List, [], ◌∷◌, ◌↔◌, ◌≡◌, ℕ, ◌<◌, length, take, drop, get_or, None, Result, Some, Ok, Err}
use Rattle.numbers.specs.Bytes.{AllBytes}
use Rattle.verdict.specs.Check.{first_fault, NoneApplies, IsFirst}
use Rattle.profile.specs.declared.Profile.{Profile}
use Rattle.profile.specs.Areas.{no_area}
use Rattle.profile_bytes.specs.Formed.{FormedArea}
use Rattle.packet.specs.declared.Kind.TheVariants.{Command}
use Rattle.packet.specs.declared.Progress.TheVariants.{Complete}
use Rattle.packet.specs.Packet.{progress_of, good, contents_of, frame}
use Rattle.packet.specs.declared.Kind.TheVariants.{Data as DataPacket}
use Rattle.packet_fields.specs.Fields.{com_of, code_at, info_count, info_length}
use Rattle.state.specs.declared.State.{State}
use Rattle.device_calls.specs.Calls.{Lent}
use Rattle.device_steps.specs.Step.{Machine}
use Rattle.device.specs.declared.Fed.{Fed}
use Rattle.device.specs.Post.{Feeds}
use Rattle.host_request.specs.declared.Request.{Request}
use Rattle.host_request.specs.declared.Request.TheVariants.{Signature, Area}
use Rattle.host_request.specs.declared.Unbuilt.{Unbuilt}
use Rattle.host_request.specs.Request.{com_for, number_for, kind_for, contents_for, packet_for, InWidth, request_checks, build_checks}
use Rattle.host_request.specs.Build.{Builds}
use Rattle.host_judge.specs.declared.Judgement.{Judgement}
use Rattle.host_judge.specs.declared.Judgement.TheVariants.{Unanswered, Passed, Refused as RefusedWith}
use Rattle.host_judge.specs.declared.Judge.{Judge}
use Rattle.host_judge.specs.Reply.{due_for, is_unanswered, judgement_of, judgement_number}
use Rattle.host_judge.specs.Judge.{fresh_judge, taken_of, sci_in, area_in}
use Rattle.host_judge.specs.Meaning.{FirstPacket, Granting, Means, joined, judge_after, collected_from}
use Rattle.host_device.specs.Agreement.{InStep, Sent, verdict_in, told_as, RefusedFor, sending, Agrees}
use Rattle.host_device.specs.Writing.{Blank, Within}

-- building a request's packet, whatever is asked and lent
pub record Building : Type 0 where
  -- built exactly where no check applies, and then at the front, with nothing changed behind it
  pub built : (request : Request) (bytes before after : List ℕ) (r : Result ℕ Unbuilt) → Builds request bytes before after r
      → (n : ℕ) → (r ≡ Ok n) ↔ (NoneApplies (build_checks request bytes (length before)) × (n ≡ length (packet_for request bytes)))
  pub placed : (request : Request) (bytes before after : List ℕ) (r : Result ℕ Unbuilt) → Builds request bytes before after r
      → (n : ℕ) → r ≡ Ok n → (take n after ≡ packet_for request bytes) × (drop n after ≡ drop n before)
  -- refused by the first check that applies, and then nothing is written
  pub refused : (request : Request) (bytes before after : List ℕ) (r : Result ℕ Unbuilt) → Builds request bytes before after r
      → (why : Unbuilt) → (r ≡ Err why) ↔ IsFirst (build_checks request bytes (length before)) why
  pub unwritten : (request : Request) (bytes before after : List ℕ) (r : Result ℕ Unbuilt) → Builds request bytes before after r
      → (why : Unbuilt) → r ≡ Err why → after ≡ before
  -- no second answer, and no second buffer
  pub once : (request : Request) (bytes before after after' : List ℕ) (r r' : Result ℕ Unbuilt) → Builds request bytes before after r
      → Builds request bytes before after' r' → (r ≡ r') × (after ≡ after')
  -- what is built is a packet of the device's: whole and good, with the contents that were asked for
  pub whole : (request : Request) (bytes : List ℕ) → first_fault (request_checks request (length bytes)) ≡ None
      → (progress_of (kind_for request) (packet_for request bytes) ≡ Complete) × (good (packet_for request bytes) ≡ true)
      × (contents_of (packet_for request bytes) ≡ contents_for request bytes)
  -- and a command is one that the device knows, with as much information as it asks for
  pub known : (request : Request) (bytes : List ℕ) → first_fault (request_checks request (length bytes)) ≡ None → kind_for request ≡ Command
      → (com_of (code_at (packet_for request bytes)) ≡ com_for request) × (info_count (packet_for request bytes) ≡ info_length (com_for request))

-- judging what comes back, in any cuts
pub record Judging : Type 0 where
  -- it begins as unanswered
  pub begins : (request : Request) → judgement_of request (joined []) ≡ Unanswered
  -- the verdict is a function of the request and the bytes, however they are cut
  pub says : (request : Request) (cuts : List (List ℕ)) → (judge_after (fresh_judge request) cuts).judgement ≡ judgement_of request (joined cuts)
  -- each verdict means what it says, and is given to no other bytes; one of the four holds, and only one
  pub means : (request : Request) (bytes : List ℕ) → AllBytes bytes → (v : Judgement) → (judgement_of request bytes ≡ v) ↔ Means request bytes v
  pub one_number : (v w : Judgement) → judgement_number v ≡ judgement_number w → v ≡ w
  -- until the verdict all is taken, with the byte that decides the taking ends, and behind it nothing is taken
  pub all : (j : Judge) (bytes : List ℕ) → (taken_of j bytes).judge.judgement ≡ Unanswered → (taken_of j bytes).count ≡ length bytes
  pub first : (j : Judge) (bytes : List ℕ) (n : ℕ) → n < (taken_of j bytes).count → (taken_of j (take n bytes)).judge.judgement ≡ Unanswered
  pub final : (j : Judge) (bytes : List ℕ) → is_unanswered j.judgement ≡ false → ((taken_of j bytes).judge ≡ j) × ((taken_of j bytes).count ≡ 0)
  -- what was told to be data, joined over the cuts, is the reply's data
  pub told : (request : Request) (cuts : List (List ℕ)) (behind : List ℕ)
      → FirstPacket (joined cuts) (frame DataPacket (number_for request ∷ behind)) → Granting (due_for request) behind
      → ((judge_after (fresh_judge request) cuts).judgement ≡ Passed) × (collected_from (fresh_judge request) cuts ≡ behind)

-- both ends
pub record Together : Type 0 where
  -- a request that the device awaits, delivered whole: both agree
  pub agrees : (p : Profile) (m : Machine) (request : Request) (bytes : List ℕ) → Sent p m request bytes → Agrees p m request bytes
  -- passed exactly where the device granted it, and refused with a code exactly where it refused it for a reason that has that code
  pub passed : (p : Profile) (m : Machine) (request : Request) (bytes : List ℕ) → Sent p m request bytes
      → (judgement_of request (sending p m request bytes).reply ≡ Passed) ↔ (verdict_in p m.image m.state m.state.stage (packet_for request bytes) ≡ Ok tt)
  pub refused : (p : Profile) (m : Machine) (request : Request) (bytes : List ℕ) → Sent p m request bytes
      → (code : ℕ) → (judgement_of request (sending p m request bytes).reply ≡ RefusedWith code)
      ↔ RefusedFor (verdict_in p m.image m.state m.state.stage (packet_for request bytes)) code
  -- the same of calls: a packet that was built, fed to a device that holds nothing and awaits it, and a judge that was given its reply
  pub calls : (p : Profile) (st : State) (request : Request) (bytes buffer packet : List ℕ) (n : ℕ) (before after : Lent) (r : Fed)
      → InWidth request → InStep request st.stage → st.held ≡ 0
      → Builds request bytes buffer packet (Ok n) → Feeds p st (take n packet) before after r → r.refusal ≡ Ok tt
      → (r.consumed ≡ n)
      × ((taken_of (fresh_judge request) (take r.count after.reply)).count ≡ r.count)
      × ((taken_of (fresh_judge request) (take r.count after.reply)).judge.judgement
      ≡ told_as (verdict_in p before.image st st.stage (packet_for request bytes)))
  -- what a passed signature and a passed area tell is what the device has
  pub sci : (p : Profile) (m : Machine) (bytes : List ℕ) → Sent p m Signature bytes → p.sci < 4294967296
      → judgement_of Signature (sending p m Signature bytes).reply ≡ Passed
      → sci_in (taken_of (fresh_judge Signature) (sending p m Signature bytes).reply).judge ≡ Some p.sci
  pub area : (p : Profile) (m : Machine) (n : ℕ) (bytes : List ℕ) → Sent p m (Area n) bytes → FormedArea (get_or p.areas n no_area)
      → judgement_of (Area n) (sending p m (Area n) bytes).reply ≡ Passed
      → area_in (taken_of (fresh_judge (Area n)) (sending p m (Area n) bytes).reply).judge ≡ Some (get_or p.areas n no_area)
  -- a permitted write into blank flash, as it is planned: at most one command and one data packet for each 1,024 bytes or part of them, where WAU
  -- divides 1,024; then the flash holds the bytes
  pub within : (p : Profile) (m : Machine) (s e : ℕ) (bytes : List ℕ) → Blank p m s e bytes → Within p m s e bytes

pub record HostEnd : Type 0 where
  pub building : Building
  pub judging : Judging
  pub together : Together
