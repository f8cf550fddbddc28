-- `recording::is_marked` meets its contract. The two bytes are the mark, one after the other. Assumes nothing.
use borrow.Author.Tests.{eq-eqb, ne_eqb}
use Rattle.recording.proofs.Laws.{mark_is}
use Rattle.recording.proofs.is_marked.Goals as goal

pub returns-then-recording-at-ne82 : goal.returns-then-recording-at-ne82
returns-then-recording-at-ne82 c =
    let a = c.args in
    rw (ne_eqb _ _ c.if-recording-at-ne82.true) at (mark_is a.recording.now a.at c.requires)

pub returns : goal.returns
returns c =
    let a = c.args in
    rw (eq-eqb _ _ c.if-recording-at-ne82.false) at (mark_is a.recording.now a.at c.requires)
