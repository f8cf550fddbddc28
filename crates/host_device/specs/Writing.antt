-- A write as it is planned: packets delivered whole, one after the other, with no reset and no other party.
use Rattle.std.specs.Prelude.{List, [], ◌≡◌, ℕ, suc, ◌+◌, ◌-◌, ◌/◌, ◌%◌, ◌≤◌, length, replicate, Some, None, Ok}
use Rattle.profile.specs.declared.Profile.{Profile}
use Rattle.profile.specs.Areas.{areas_of, total_of}
use Rattle.profile.specs.Places.{place_of, unit_at}
use Rattle.profile_rules.specs.Rules.{Accepted}
use Rattle.profile_ranges.specs.declared.Purpose.TheVariants.{Write as ToWrite}
use Rattle.profile_ranges.specs.Ranges.{Permitted}
use Rattle.flash.specs.Effects.{fetched, stored}
use Rattle.state.specs.declared.Stage.TheVariants.{Command}
use Rattle.state.specs.State.{window_of}
use Rattle.answer.specs.Answer.{moved}
use Rattle.device_steps.specs.Step.{Machine}
use Rattle.host_request.specs.Request.{packet_for}
use Rattle.host_judge.specs.declared.Judgement.TheVariants.{Passed}
use Rattle.host_judge.specs.Reply.{judgement_of}
use Rattle.host_plan.specs.declared.Plan.{Plan}
use Rattle.host_plan.specs.declared.Sending.{Sending}
use Rattle.host_plan.specs.Plan.{plan_of, following_of, piece_of, size_for}
use Rattle.host_device.specs.Agreement.{sending}

-- the device takes a request of a plan whole, and the judge passes its reply
pub record PassesOn (p : Profile) (m : Machine) (bytes : List ℕ) (s : Sending) : Type 0 where
  pub consumed : (sending p m s.request (piece_of s bytes)).consumed ≡ length (packet_for s.request (piece_of s bytes))
  pub passed : judgement_of s.request (sending p m s.request (piece_of s bytes)).reply ≡ Passed

-- the machine behind a request of a plan
abbrev pub machine_behind : Profile → Machine → List ℕ → Sending → Machine
machine_behind p m bytes s = (sending p m s.request (piece_of s bytes)).machine

-- a plan that was carried out to its end: so many packets, each of them passed, from one machine to another
pub data CarriedOut (p : Profile) (bytes : List ℕ) : Plan → Machine → ℕ → Machine → Type 0 where
  all_sent : (plan : Plan) (m : Machine) → following_of plan ≡ None → CarriedOut p bytes plan m 0 m
  one_sent : (plan : Plan) (m after : Machine) (n : ℕ) (s : Sending) → following_of plan ≡ Some s → PassesOn p m bytes s
      → CarriedOut p bytes s.rest (machine_behind p m bytes s) n after → CarriedOut p bytes plan m (suc n) after

-- a permitted write of these bytes into blank flash, to a device that awaits commands and holds nothing
pub record Blank (p : Profile) (m : Machine) (s e : ℕ) (bytes : List ℕ) : Type 0 where
  pub profile : Accepted p
  pub image : length m.image ≡ total_of (areas_of p)
  pub stage : m.state.stage ≡ Command
  pub idle : m.held ≡ []
  pub count : m.state.held ≡ 0
  pub permitted : Permitted (areas_of p) (window_of p m.state) ToWrite s e
  pub amount : length bytes ≡ e + 1 - s
  pub blank : fetched (areas_of p) s (e + 1 - s) m.image ≡ replicate (e + 1 - s) 0xFF

-- WAU of the area
abbrev pub unit_for : Profile → ℕ → ℕ
unit_for p s = unit_at (place_of (areas_of p) s)

-- parts of n bytes, each of `size` but for the last
abbrev pub parts_of : ℕ → ℕ → ℕ
parts_of n size = (n + (size - 1)) / size

-- it is planned, and the plan carried out to its end: the command and as many data packets as its units need, at most one for each 1,024 bytes or part
-- of them where WAU divides 1,024; then the flash holds the bytes, no other byte of it has changed, and the device awaits the next command
pub record Within (p : Profile) (m : Machine) (s e : ℕ) (bytes : List ℕ) : Type 0 where
  pub plan : Plan
  pub planned : plan_of s e (unit_for p s) (length bytes) ≡ Ok plan
  pub packets : ℕ
  pub after : Machine
  pub carried : CarriedOut p bytes plan m packets after
  pub exactly : packets ≡ 1 + parts_of (length bytes) (size_for (unit_for p s))
  pub limit : 1024 % unit_for p s ≡ 0 → packets ≤ 1 + parts_of (length bytes) 1024
  pub holds : fetched (areas_of p) s (length bytes) after.image ≡ bytes
  pub image : after.image ≡ stored (areas_of p) s bytes m.image
  pub state : after.state ≡ moved Command m.state
  pub nothing : after.held ≡ []
