-- What an accepted feed has, by name.
use Rattle.std.specs.Prelude.{◌≡◌, length}
use Rattle.profile.specs.declared.Profile.{Profile}
use Rattle.profile.specs.Areas.{areas_of, total_of}
use Rattle.profile_rules.specs.Rules.{Accepted as AcceptedProfile}
use Rattle.packet.specs.Frame.{Roomy}
use Rattle.state.specs.declared.State.{State}
use Rattle.state.specs.Fit.{Fit}
use Rattle.device_calls.specs.Calls.{Lent}

pub record Ready (p : Profile) (st : State) (l : Lent) : Type 0 where
  pub profile : AcceptedProfile p
  pub image : length l.image ≡ total_of (areas_of p)
  pub receive : Roomy l.receive
  pub reply : Roomy l.reply
  pub fit : Fit p st l.receive
