-- What a call leaves in the buffers that were lent, by name.
use Rattle.std.specs.Prelude.{List, ◌≡◌, ℕ, length, take, Ok, Err}
use Rattle.profile.specs.declared.Profile.{Profile}
use Rattle.packet.specs.Frame.{front}
use Rattle.state.specs.declared.State.{State}
use Rattle.device_calls.specs.declared.Row.{Row}
use Rattle.device_calls.specs.Calls.{Lent, number_of, feed_refusal, Refusal}
use Rattle.device_steps.specs.Step.{machine_of}
use Rattle.device_steps.specs.Feed.{Delivery, feed_of}
use Rattle.device.specs.declared.Fed.{Fed}

-- what an accepted feed leaves: d is what is defined; empty input leaves the receive buffer too
pub record Ran (d : Delivery) (input : List ℕ) (before after : Lent) (r : Fed) : Type 0 where
  pub is : r ≡ record { refusal = Ok tt; state = d.machine.state; consumed = d.consumed; count = length d.reply }
  pub image : after.image ≡ d.machine.image
  pub held : take d.machine.state.held after.receive ≡ d.machine.held
  pub reply : after.reply ≡ front d.reply before.reply
  pub idle : length input ≡ 0 → after.receive ≡ before.receive

-- what a refused feed leaves: everything as it was
pub record Unfed (row : Row) (st : State) (before after : Lent) (r : Fed) : Type 0 where
  pub is : r ≡ record { refusal = Err row; state = st; consumed = 0; count = 0 }
  pub lent : after ≡ before

-- by the refusal
abbrev pub FedBy : Refusal → Delivery → List ℕ → State → Lent → Lent → Fed → Type 0
FedBy (Ok tt) d input st before after r = Ran d input before after r
FedBy (Err row) d input st before after r = Unfed row st before after r

-- what feeding promises: the paper's number of the first row that applies, 0 where none does, and all that it leaves
pub record Feeds (p : Profile) (st : State) (input : List ℕ) (before after : Lent) (r : Fed) : Type 0 where
  pub number : number_of r.refusal ≡ number_of (feed_refusal p st before)
  pub fed : FedBy (feed_refusal p st before) (feed_of p (machine_of st before) input) input st before after r
