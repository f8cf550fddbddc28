-- When a machine fits its profile: as many bytes are held as its state says, and they and its stage fit.
use Rattle.std.specs.Prelude.{true, ◌≡◌, length}
use Rattle.profile.specs.declared.Profile.{Profile}
use Rattle.profile.specs.Areas.{areas_of}
use Rattle.state.specs.State.{window_of}
use Rattle.state.specs.Awaits.{awaits_of, held_fits}
use Rattle.state.specs.Fits.{stage_fits}
use Rattle.device_steps.specs.Step.{Machine}

pub record FitMachine (p : Profile) (m : Machine) : Type 0 where
  pub count : m.state.held ≡ length m.held
  pub held : held_fits (awaits_of m.state.stage) m.held ≡ true
  pub stage : stage_fits (areas_of p) (window_of p m.state) m.state.stage ≡ true
