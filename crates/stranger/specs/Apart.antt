-- Two devices that somebody does tell apart: what is claimed of those that are alike is claimed no further.
use Rattle.std.specs.Prelude.{List, map, ◌≡◌, ℕ, length}
use Rattle.profile.specs.declared.Profile.{Profile}
use Rattle.profile.specs.Areas.{areas_of, total_of}
use Rattle.profile_rules.specs.Rules.{Accepted as AcceptedProfile}
use Rattle.device_steps.specs.Step.{Machine}
use Rattle.device_steps.specs.Fits.{FitMachine}
use Rattle.record_history.specs.History.{Call, machine_after}
use Rattle.stranger.specs.Alike.{Shut, Alike}
use Rattle.stranger.specs.Seen.{Seen, seen_of}

-- the replies that come back
abbrev pub replies_seen : Profile → Machine → List Call → List (List ℕ)
replies_seen p m calls = map (λ (s : Seen). s.reply) (seen_of p m calls)

-- equal states and held bytes, an acceptable profile, images and a state that fit it; and calls that bring different replies
pub record ToldApart : Type 0 where
  pub profile : Profile
  pub first : Machine
  pub second : Machine
  pub accepted : AcceptedProfile profile
  pub fits : FitMachine profile first
  pub whole : length first.image ≡ total_of (areas_of profile)
  pub whole' : length second.image ≡ total_of (areas_of profile)
  pub state : first.state ≡ second.state
  pub held : first.held ≡ second.held
  pub calls : List Call
  pub differ : replies_seen profile first calls ≡ replies_seen profile second calls → ⊥

-- the command stage is not entered: only the stored ID can tell them apart
pub record ByTheId : Type 0 where
  pub apart : ToldApart
  pub shut : Shut apart.first

-- alike, the stored ID too: only the command stage can
pub record ByCommands : Type 0 where
  pub apart : ToldApart
  pub alike : Alike apart.profile apart.first apart.second

-- alike, and the command stage was not entered; then a history led through it and back by a reset. Again it is not entered and their states are the
-- same, but they are told apart. Each delivery of the history ends with its answer, so that nothing in it is left unread
pub record NotAgain : Type 0 where
  pub apart : ToldApart
  pub shut : Shut apart.first
  pub was : Machine
  pub was' : Machine
  pub alike : Alike apart.profile was was'
  pub was_shut : Shut was
  pub history : List Call
  pub came : apart.first ≡ machine_after apart.profile was history
  pub came' : apart.second ≡ machine_after apart.profile was' history
