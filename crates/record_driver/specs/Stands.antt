-- What a call of a script leaves, and which call a record is.
use Rattle.std.specs.Prelude.{List, [], ◌∷◌, ◌≡◌, ℕ, take}
use Rattle.profile.specs.declared.Profile.{Profile}
use Rattle.state.specs.declared.State.{State}
use Rattle.device_calls.specs.Calls.{Lent}
use Rattle.device_calls.specs.Ready.{Ready}
use Rattle.device_steps.specs.Step.{Machine}
use Rattle.recording.specs.declared.Direction.{Direction}
use Rattle.recording.specs.declared.Part.{Part}
use Rattle.recording.specs.Recording.{bytes_in, record_by}
use Rattle.record_history.specs.History.{Call, calls_of}

-- a state and lent buffers that are a machine, with what its replies left, and that the next call can be given
pub record Stands (p : Profile) (m : Machine) (replies : List ℕ) (st : State) (l : Lent) : Type 0 where
  pub state : st ≡ m.state
  pub image : l.image ≡ m.image
  pub held : take st.held l.receive ≡ m.held
  pub reply : l.reply ≡ replies
  pub ready : Ready p st l

-- the calls of a record: one at most
abbrev pub calls_at : List ℕ → Direction → Part → List Call
calls_at script direction part = calls_of (record_by direction (bytes_in part script) ∷ [])
