-- What the parts of feeding ask and leave.
use Rattle.std.specs.Prelude.{true, List, ◌≡◌, ℕ, ◌+◌, ◌≤◌, min, length, take}
use Rattle.std.proofs.Math.Seq.{paste}
use Rattle.profile.specs.declared.Profile.{Profile}
use Rattle.profile.specs.Areas.{areas_of}
use Rattle.packet.specs.Frame.{Roomy, front}
use Rattle.packet_fields.specs.Fields.{info_of}
use Rattle.packet_gather.specs.Gather.{gain_of}
use Rattle.state.specs.declared.Awaited.{Awaited}
use Rattle.state.specs.declared.Awaited.TheVariants.{WakeUp, Packet}
use Rattle.state.specs.declared.Stage.{Stage}
use Rattle.state.specs.declared.Stage.TheVariants.{Setting, Authentication, Command, Writing, Reading}
use Rattle.state.specs.Awaits.{held_fits}
use Rattle.state.specs.Fit.{Fit}
use Rattle.flash.specs.declared.Act.{Act}
use Rattle.flash.specs.Acts.{performed}
use Rattle.answer.specs.declared.Answered.{Answered}
use Rattle.device_calls.specs.Calls.{Lent, buffers}
use Rattle.device_steps.specs.Step.{Step}

-- a range's addresses have 32 bits
abbrev pub RangeIn : Stage → Type 0
RangeIn (Setting u) = Unit {0}
RangeIn Authentication = Unit {0}
RangeIn Command = Unit {0}
RangeIn (Writing r) = r.next + r.left ≤ 4294967296
RangeIn (Reading r) = r.next + r.left ≤ 4294967296

-- the buffers once an act is performed, with the data bytes of the first n that were received
abbrev pub acted : Profile → List ℕ → Act → ℕ → List ℕ → List ℕ → Lent
acted p image act n receive reply = buffers (performed (areas_of p) act (info_of (take n receive)) image) receive reply

-- what a step leaves, its act performed: s is what is defined
pub record Stood (s : Step) (p : Profile) (before after : Lent) (r : Answered) : Type 0 where
  pub state : r.state ≡ s.machine.state
  pub image : after.image ≡ s.machine.image
  pub held : take r.state.held after.receive ≡ s.machine.held
  pub count : r.count ≡ length s.reply
  pub reply : after.reply ≡ front s.reply before.reply
  pub fit : Fit p r.state after.receive

-- how many bytes only add to what is awaited; to a wake-up none
abbrev pub gain_in : Awaited → List ℕ → List ℕ → ℕ
gain_in (WakeUp u) q bs = 0
gain_in (Packet kind) q bs = gain_of kind q bs

-- held bytes that fit, in a buffer with room for a longest packet
pub record Holding (awaited : Awaited) (count : ℕ) (rc : List ℕ) : Type 0 where
  pub inside : count ≤ length rc
  pub fits : held_fits awaited (take count rc) ≡ true
  pub room : Roomy rc

-- n of the bytes bs only add to what is awaited, and stand behind those that were held
pub record Added (awaited : Awaited) (count : ℕ) (bs : List ℕ) (n : ℕ) (rc₀ rc : List ℕ) : Type 0 where
  pub taken : n ≡ min (gain_in awaited (take count rc₀) bs) (length bs)
  pub receive : rc ≡ paste rc₀ count bs n
