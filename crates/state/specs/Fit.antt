-- What it says that a state fits: the parts of the test, by name.
use Rattle.std.specs.Prelude.{true, List, ◌≡◌, ℕ, ◌≤◌, length, take}
use Rattle.profile.specs.declared.Profile.{Profile}
use Rattle.profile.specs.Areas.{areas_of}
use Rattle.state.specs.declared.State.{State}
use Rattle.state.specs.State.{window_of}
use Rattle.state.specs.Awaits.{awaits_of, held_fits}
use Rattle.state.specs.Fits.{stage_fits}

pub record Fit (p : Profile) (st : State) (receive : List ℕ) : Type 0 where
  pub inside : st.held ≤ length receive
  pub held : held_fits (awaits_of st.stage) (take st.held receive) ≡ true
  pub stage : stage_fits (areas_of p) (window_of p st) st.stage ≡ true
