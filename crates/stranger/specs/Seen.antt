-- What is seen of a device, call by call, until it enters the command stage.
use Rattle.std.specs.Prelude.{cond, List, [], ◌∷◌, ◌≡◌, ℕ}
use Rattle.profile.specs.declared.Profile.{Profile}
use Rattle.state.specs.declared.Stage.{Stage}
use Rattle.state.specs.declared.State.{State}
use Rattle.device_steps.specs.Step.{Machine, Step}
use Rattle.device_steps.specs.Feed.{Delivery, feed_of}
use Rattle.record_history.specs.History.{Call, deliver, again, fresh_of}
use Rattle.stranger.specs.Alike.{is_shut, Alike}

-- one call: the reply, how much was consumed, the state and the held bytes behind it
pub record Seen : Type 0 where
  pub reply : List ℕ
  pub consumed : ℕ
  pub state : State
  pub held : List ℕ

abbrev pub seen : Delivery → Seen
seen d = record { reply = d.reply; consumed = d.consumed; state = d.machine.state; held = d.machine.held }

-- a delivery is fed by one call, which leaves unread what stands behind its reply; a reset has no reply
abbrev pub called : Profile → Machine → Call → Delivery
called p m (deliver bs) = feed_of p m bs
called p m again = record { machine = fresh_of p m.image; reply = []; consumed = 0 }

-- what follows counts only where the command stage is not entered
abbrev pub while_shut : {A : Type 0} → Stage → List A → List A
while_shut stage more = cond (is_shut stage) more []

-- call by call, the one that enters included, and none behind it
unfoldable pub seen_of : Profile → Machine → List Call → List Seen
seen_of p m [] = []
seen_of p m (c ∷ more) = seen (called p m c) ∷ while_shut (called p m c).machine.state.stage (seen_of p (called p m c).machine more)

-- a byte does the same to both, as far as anybody sees, and leaves them alike
pub record SameStep (p : Profile) (s s' : Step) : Type 0 where
  pub reply : s.reply ≡ s'.reply
  pub machine : Alike p s.machine s'.machine

-- and so does a call
pub record SameDelivery (p : Profile) (d d' : Delivery) : Type 0 where
  pub reply : d.reply ≡ d'.reply
  pub consumed : d.consumed ≡ d'.consumed
  pub machine : Alike p d.machine d'.machine
