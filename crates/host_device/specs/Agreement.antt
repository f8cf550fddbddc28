-- A request that is sent to a device, and what the judge makes of its reply.
use Rattle.std.specs.Prelude.{List, [], ◌≡◌, ℕ, length, None, Ok, Err}
use Rattle.verdict.specs.declared.Reason.{Reason}
use Rattle.verdict.specs.Check.{first_fault, verdict_of, Verdict}
use Rattle.verdict.specs.Code.{code_of}
use Rattle.profile.specs.declared.Profile.{Profile}
use Rattle.profile.specs.Areas.{areas_of, total_of}
use Rattle.profile_rules.specs.Rules.{Accepted}
use Rattle.packet.specs.declared.Kind.TheVariants.{Command as CommandPacket}
use Rattle.packet_fields.specs.Fields.{info_of}
use Rattle.state.specs.declared.Awaited.TheVariants.{Packet}
use Rattle.state.specs.declared.Range.{Range}
use Rattle.state.specs.declared.Stage.{Stage}
use Rattle.state.specs.declared.Stage.TheVariants.{Setting, Authentication, Command, Writing, Reading}
use Rattle.state.specs.declared.State.{State}
use Rattle.state.specs.Awaits.{awaits_of}
use Rattle.check_command.specs.Commands.{command_checks}
use Rattle.check_transfer.specs.Transfer.{write_checks, next_checks}
use Rattle.device_steps.specs.Step.{Machine, settled, answer_of}
use Rattle.device_steps.specs.Feed.{Delivery, feed_of}
use Rattle.device_steps.specs.Fits.{FitMachine}
use Rattle.host_request.specs.declared.Request.{Request}
use Rattle.host_request.specs.declared.Request.TheVariants.{Inquiry, Erase, Write, Read, Authenticate, Baud, Signature, Area, WriteData, Next}
use Rattle.host_request.specs.Request.{packet_for, InWidth, request_checks}
use Rattle.host_judge.specs.declared.Judgement.{Judgement}
use Rattle.host_judge.specs.declared.Judgement.TheVariants.{Passed, Refused as RefusedWith}
use Rattle.host_judge.specs.Reply.{judgement_of}
use Rattle.host_judge.specs.Judge.{fresh_judge, hearing_of}

-- a write is under way
pub record InWrite (stage : Stage) : Type 0 where
  pub range : Range
  pub is : stage ≡ Writing range

-- a read is under way, with so many bytes left
pub record InRead (stage : Stage) (left : ℕ) : Type 0 where
  pub range : Range
  pub is : stage ≡ Reading range
  pub amount : range.left ≡ left

-- the device awaits that kind of packet; for a next packet, with as much left to read as the request says
abbrev pub InStep : Request → Stage → Type 0
InStep Inquiry stage = awaits_of stage ≡ Packet CommandPacket
InStep (Erase s e) stage = awaits_of stage ≡ Packet CommandPacket
InStep (Write s e) stage = awaits_of stage ≡ Packet CommandPacket
InStep (Read s e) stage = awaits_of stage ≡ Packet CommandPacket
InStep Authenticate stage = awaits_of stage ≡ Packet CommandPacket
InStep (Baud brt) stage = awaits_of stage ≡ Packet CommandPacket
InStep Signature stage = awaits_of stage ≡ Packet CommandPacket
InStep (Area n) stage = awaits_of stage ≡ Packet CommandPacket
InStep WriteData stage = InWrite stage
InStep (Next left) stage = InRead stage left

-- a request that can be built, for a device that holds nothing and awaits it
pub record Sent (p : Profile) (m : Machine) (r : Request) (bytes : List ℕ) : Type 0 where
  pub profile : Accepted p
  pub image : length m.image ≡ total_of (areas_of p)
  pub fits : FitMachine p m
  pub idle : m.held ≡ []
  pub step : InStep r m.state.stage
  pub width : InWidth r
  pub buildable : first_fault (request_checks r (length bytes)) ≡ None

-- what the device's own checks say of a complete packet, by its stage; setting awaits none
abbrev pub verdict_in : Profile → List ℕ → State → Stage → List ℕ → Verdict
verdict_in p image st (Setting u) q = verdict_of (first_fault (command_checks p st q))
verdict_in p image st Authentication q = verdict_of (first_fault (command_checks p st q))
verdict_in p image st Command q = verdict_of (first_fault (command_checks p st q))
verdict_in p image st (Writing r) q = verdict_of (first_fault (write_checks (areas_of p) image r q))
verdict_in p image st (Reading r) q = verdict_of (first_fault (next_checks q))

-- what the host is to make of it: passed if granted, otherwise refused with its code
abbrev pub told_as : Verdict → Judgement
told_as (Ok tt) = Passed
told_as (Err reason) = RefusedWith (code_of reason)

-- a refusal for a reason that has this code
pub record RefusedFor (v : Verdict) (code : ℕ) : Type 0 where
  pub reason : Reason
  pub is : v ≡ Err reason
  pub coded : code_of reason ≡ code

-- the delivery of a request's packet
abbrev pub sending : Profile → Machine → Request → List ℕ → Delivery
sending p m r bytes = feed_of p m (packet_for r bytes)

-- the two ends agree
pub record Agrees (p : Profile) (m : Machine) (r : Request) (bytes : List ℕ) : Type 0 where
  -- the device takes the packet whole, and does what its checks say of it
  pub consumed : (sending p m r bytes).consumed ≡ length (packet_for r bytes)
  pub machine : (sending p m r bytes).machine
      ≡ (settled p m (info_of (packet_for r bytes)) (answer_of p m.image m.state m.state.stage (packet_for r bytes))).machine
  -- the judge takes its reply whole, and says that it passed exactly if the device granted it, and refused with exactly its code otherwise
  pub taken : (hearing_of (fresh_judge r) (sending p m r bytes).reply).count ≡ length (sending p m r bytes).reply
  pub judged : judgement_of r (sending p m r bytes).reply ≡ told_as (verdict_in p m.image m.state m.state.stage (packet_for r bytes))
