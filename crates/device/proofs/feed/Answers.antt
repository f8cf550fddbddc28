-- `device::feed` meets its contract. A call to which no row applies has what a run asks; another leaves all as it was. Assumes nothing.
use Rattle.device.proofs.Turns.{fed_ran, fed_refused, feeds}
use Rattle.device_calls.proofs.Rows.{is_accepted_lem, feed_rows_lem, rows_ready}
use Rattle.device_calls.specs.Calls.{buffers}
use mathlib.Core.Path.{sym, ◌∙◌}
use Rattle.device.proofs.feed.Goals as goal

pub run-requires : goal.run-requires
run-requires c =
    let a = c.args in
    let refused = c.refused-refusal in
    rows_ready a.profile a.state (buffers a.image.now a.receive.now a.reply.now) (feed_rows_lem a.profile a.state
    (buffers a.image.now a.receive.now a.reply.now) ∙ sym refused.ensures ∙ is_accepted_lem refused.result
    (sym c.is_accepted.ensures ∙ c.if-is_accepted.true))

pub returns-then-is_accepted : goal.returns-then-is_accepted
returns-then-is_accepted c =
    let a = c.args in
    feeds (fed_ran _ _ _ _ _ _ _ _ (c.refused-refusal.ensures ∙ sym
    (feed_rows_lem a.profile a.state (buffers a.image.now a.receive.now a.reply.now)))
    c.is_accepted.ensures
    c.if-is_accepted.true
    c.run.ensures)

pub returns : goal.returns
returns c =
    let a = c.args in
    feeds (fed_refused _ _ _ _ _ _ _
    (c.refused-refusal.ensures ∙ sym (feed_rows_lem a.profile a.state (buffers a.image.now a.receive.now a.reply.now)))
    c.is_accepted.ensures c.if-is_accepted.false)
