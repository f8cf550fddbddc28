-- What a complete packet or a wake-up is answered: the act on the flash, the state after it, and the reply.
use Rattle.std.specs.Prelude.{List, ◌≡◌, ℕ, length}
use Rattle.packet.specs.Frame.{front}
use Rattle.flash.specs.declared.Act.{Act}
use Rattle.state.specs.declared.Stage.{Stage}
use Rattle.state.specs.declared.State.{State}
use Rattle.state.specs.State.{with_stage, with_held}
use Rattle.answer.specs.declared.Answered.{Answered}

pub record Answer : Type 0 where
  pub act : Act
  pub state : State
  pub reply : List ℕ

-- the state in another stage, with nothing held
abbrev pub moved : Stage → State → State
moved stage st = with_held 0 (with_stage stage st)

-- what answering says and leaves in the reply buffer: a is what is defined
pub record Answers (a : Answer) (r : Answered) (before after : List ℕ) : Type 0 where
  pub act : r.act ≡ a.act
  pub state : r.state ≡ a.state
  pub count : r.count ≡ length a.reply
  pub reply : after ≡ front a.reply before
