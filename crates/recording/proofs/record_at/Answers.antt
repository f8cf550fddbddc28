-- `recording::record_at` meets its contract. The tests are the checks in their order; a known direction is looked at from its length on. Assumes nothing.
use mathlib.Core.Bool.{not}
use mathlib.Core.Path.{ap}
use mathlib.Core.Path.{sym, ◌∙◌}
use native.Mathlib.Omega.{arith}
use lib.ListN.{length}
use borrow.Author.Tests.{not-true, not-false}
use Rattle.numbers.proofs.Laws.{room}
use Rattle.recording.proofs.Laws.{found_end, mark_cut, mark_bad, direction_cut, direction_bad, direction_known}
use Rattle.recording.proofs.record_at.Goals as goal

pub returns-then-at-n : goal.returns-then-at-n
returns-then-at-n c = found_end c.args.recording.now c.args.at c.if-at-n.true

pub returns-then-not-has_field : goal.returns-then-not-has_field
returns-then-not-has_field c =
    let a = c.args in
    mark_cut a.recording.now a.at c.if-at-n.false (sym c.has_field.ensures ∙ not-true _ (ap not c.if-not-has_field.true))

pub is_marked-requires : goal.is_marked-requires
is_marked-requires c =
    let a = c.args in
    room a.at 2 (length a.recording.now) _ c.has_field.ensures (ap not c.if-not-has_field.false)

pub returns-then-not-is_marked : goal.returns-then-not-is_marked
returns-then-not-is_marked c =
    let a = c.args in
    mark_bad a.recording.now a.at c.if-at-n.false (sym c.has_field.ensures ∙ not-false _ (ap not c.if-not-has_field.false))
    (sym c.is_marked.ensures ∙ not-true _ (ap not c.if-not-is_marked.true))

pub returns-then-not-has_field-2 : goal.returns-then-not-has_field-2
returns-then-not-has_field-2 c =
    let a = c.args in
    direction_cut a.recording.now a.at c.if-at-n.false (sym c.has_field.ensures ∙ not-false _ (ap not c.if-not-has_field.false))
    (sym c.is_marked.ensures ∙ not-false _ (ap not c.if-not-is_marked.false)) (sym c.has_field-2.ensures ∙ not-true _ (ap not c.if-not-has_field-2.true))

pub overflow_add-at : goal.overflow_add-at
overflow_add-at c =
    let a = c.args in
    omega (arith, room a.at 3 (length a.recording.now) _ c.has_field-2.ensures (ap not c.if-not-has_field-2.false))

pub bounds-recording-at : goal.bounds-recording-at
bounds-recording-at c =
    let a = c.args in
    omega (arith, room a.at 3 (length a.recording.now) _ c.has_field-2.ensures (ap not c.if-not-has_field-2.false))

pub returns-in-Err : goal.returns-in-Err
returns-in-Err c =
    let a = c.args in
    let if1 = c.if-at-n in
    let has-field = c.has_field in
    let if2 = c.if-not-has_field in
    let is-marked = c.is_marked in
    direction_bad a.recording.now a.at if1.false (sym has-field.ensures ∙ not-false _ (ap not if2.false)) (sym is-marked.ensures ∙ not-false _ (ap not c.if-not-is_marked.false))
    (sym c.has_field-2.ensures ∙ not-false _ (ap not c.if-not-has_field-2.false)) (grind arith)

pub returns-in-Ok : goal.returns-in-Ok
returns-in-Ok c =
    let a = c.args in
    let if1 = c.if-at-n in
    let has-field = c.has_field in
    let if2 = c.if-not-has_field in
    let is-marked = c.is_marked in
    let if3 = c.if-not-is_marked in
    let has-field2 = c.has_field-2 in
    c.directed_at.ensures ∙ direction_known a.recording.now a.at if1.false (sym has-field.ensures ∙ not-false _ (ap not if2.false)) (sym is-marked.ensures ∙ not-false _ (ap not if3.false))
    (sym has-field2.ensures ∙ not-false _ (ap not c.if-not-has_field-2.false)) c.in-Ok.known (grind arith)
