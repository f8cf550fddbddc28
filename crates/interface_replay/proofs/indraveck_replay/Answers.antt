-- `interface_replay::indraveck_replay` meets its contract. A refused replay touches nothing; an accepted one is the play of the recording. Assumes nothing.
use mathlib.Core.Bool.{not}
use mathlib.Core.Path.{ap}
use mathlib.Core.Path.{sym, ◌∙◌}
use borrow.Author.Tests.{not-true, not-false}
use Rattle.interface_replay.proofs.Outcome.{left, replayed}
use Rattle.interface_replay.proofs.indraveck_replay.Goals as goal

pub returns-then-not-is_accepted : goal.returns-then-not-is_accepted
returns-then-not-is_accepted c =
    let profile-in = c.profile_in-p in
    let start = c.start-begun in
    let a = c.args in
    left a.profile.now a.recording.now a.image.now profile-in.result profile-in.ensures start.result start.ensures.is
    (sym c.is_accepted.ensures ∙ not-true _ (ap not c.if-not-is_accepted.true)) c.number.result c.number.ensures

pub returns : goal.returns
returns c =
    let profile-in = c.profile_in-p in
    let start = c.start-begun in
    let play = c.play-extent in
    let a = c.args in
    replayed a.profile.now a.recording.now a.image.now profile-in.result profile-in.ensures start.result start.ensures.is
    (sym c.is_accepted.ensures ∙ not-false _ (ap not c.if-not-is_accepted.false)) play.new.image
    play.result play.ensures c.from-2.result (c.from-2.ensures ∙ c.from.ensures)
