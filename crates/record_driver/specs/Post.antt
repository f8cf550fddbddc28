-- What driving a device over a script leaves.
use Rattle.std.specs.Prelude.{List, ◌≡◌, ℕ, length, take, Ok, Err}
use Rattle.profile.specs.declared.Profile.{Profile}
use Rattle.profile.specs.Areas.{areas_of}
use Rattle.state.specs.State.{fresh_state, zero_state}
use Rattle.device_calls.specs.declared.Row.{Row}
use Rattle.device_calls.specs.Calls.{Lent, start_refusal, feed_refusal, started_at, Refusal}
use Rattle.device_steps.specs.Step.{Machine}
use Rattle.recording.specs.Recording.{records_of, extent_of, unread}
use Rattle.record_replay.specs.Replay.{replay}
use Rattle.record_history.specs.History.{fresh_of, machine_after, record_of, buffer_after, calls_of}
use Rattle.record_driver.specs.declared.Driven.{Driven}
use Rattle.record_driver.specs.Stands.{Stands}

-- a script that was driven from a machine on
pub record DroveOn (p : Profile) (m : Machine) (script : List ℕ) (before after : Lent) (r : Driven) : Type 0 where
  pub refusal : r.refusal ≡ Ok tt
  pub stands : Stands p (machine_after p m (calls_of (records_of script))) (buffer_after p m (calls_of (records_of script)) before.reply) r.state after
  pub read : r.read ≡ extent_of script

-- the machine after a script that was driven from the start
abbrev pub scripted : Profile → List ℕ → List ℕ → Machine
scripted p image script = machine_after p (fresh_of p image) (calls_of (records_of script))

-- a script that was driven from the start: the image at exit is the replay of its record on the image at entry
pub record Drove (p : Profile) (script : List ℕ) (before after : Lent) (r : Driven) : Type 0 where
  pub refusal : r.refusal ≡ Ok tt
  pub image : after.image ≡ replay (areas_of p) before.image (record_of p (fresh_of p before.image) (calls_of (records_of script)))
  pub machine : after.image ≡ (scripted p before.image script).image
  pub state : r.state ≡ (scripted p before.image script).state
  pub held : take r.state.held after.receive ≡ (scripted p before.image script).held
  pub reply : after.reply ≡ buffer_after p (fresh_of p before.image) (calls_of (records_of script)) before.reply
  pub read : r.read ≡ extent_of script

-- a script that was not begun: everything is as it was, the state is that of the start
pub record Undriven (row : Row) (p : Profile) (before after : Lent) (r : Driven) : Type 0 where
  pub is : r ≡ record { refusal = Err row; state = started_at (start_refusal p (length before.image)) p zero_state; read = unread }
  pub lent : after ≡ before

abbrev pub DrivenBy : Refusal → Profile → List ℕ → Lent → Lent → Driven → Type 0
DrivenBy (Ok tt) p script before after r = Drove p script before after r
DrivenBy (Err row) p script before after r = Undriven row p before after r

-- what driving promises
abbrev pub Drives : Profile → List ℕ → Lent → Lent → Driven → Type 0
Drives p script before after r = DrivenBy (feed_refusal p (fresh_state p) before) p script before after r
