-- `answer_waking::wake` meets its contract. The pulse and the byte pick the answer that is defined. Assumes nothing.
use borrow.Author.Rules.{rules}
use Rattle.state.specs.declared.Pulse.TheVariants.{Zero, One, Acknowledged}
use Rattle.answer_waking.specs.Wake.{wake_of}
use Rattle.answer_waking.proofs.Woken.{went}
use Rattle.answer_waking.proofs.wake.Goals as goal
use Rattle.answer_waking.proofs.wake.Goals.{in_default-via-in-Zero+in_default, in_default-via-in-One+in_default, in_default-via-in-Acknowledged+in_default}

pub returns-in-Zero-eq0 : goal.returns-in-Zero-eq0
unfolding wake_of
returns-in-Zero-eq0 c = went c.args.state One (simp (c.in-Zero-eq0.is-0, c.in-Zero-eq0.is-1)) c.go.ensures

pub returns-in-Acknowledged-eq0 : goal.returns-in-Acknowledged-eq0
unfolding wake_of
returns-in-Acknowledged-eq0 c = went c.args.state Acknowledged (simp (c.in-Acknowledged-eq0.is-0, c.in-Acknowledged-eq0.is-1)) c.go-in-Acknowledged-eq0.ensures

pub returns-in_default : goal.returns-in_default
unfolding wake_of
returns-in_default c =
    went c.args.state Zero (elim c.in_default.branch [ in_default-via-in-Zero+in_default w ↦ search rules | in_default-via-in-One+in_default w ↦ search rules | in_default-via-in-Acknowledged+in_default w ↦ search rules ])
    c.go-in_default.ensures
