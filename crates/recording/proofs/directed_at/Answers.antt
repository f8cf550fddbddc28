-- `recording::directed_at` meets its contract. The tests are the checks from the length on, in their order. Assumes nothing.
use mathlib.Core.Bool.{not}
use mathlib.Core.Path.{sym, ap, ◌∙◌}
use Prim.Native.Nat.{ℕ, ◌+◌}
use native.Mathlib.Omega.{arith}
use lib.ListN.{length}
use lib.Dec.{leb}
use borrow.Author.Tests.{not-true, not-false}
use Rattle.numbers.proofs.Laws.{room}
use Rattle.recording.proofs.Laws.{head_cut, length_bad, bytes_cut, bytes_there}
use Rattle.recording.specs.Format.{direction_number, length_allowed}
use Rattle.recording.proofs.directed_at.Goals as goal

pub returns-then-not-has_field : goal.returns-then-not-has_field
returns-then-not-has_field c =
    let a = c.args in
    head_cut a.recording.now a.at a.direction (sym c.has_field.ensures ∙ not-true _ (ap not c.if-not-has_field.true))

pub overflow_add-from : goal.overflow_add-from
overflow_add-from c =
    let a = c.args in
    omega (arith, room a.at 5 (length a.recording.now) _ c.has_field.ensures (ap not c.if-not-has_field.false))

pub count_at-count-requires : goal.count_at-count-requires
count_at-count-requires c =
    let a = c.args in
    room a.at 5 (length a.recording.now) _ c.has_field.ensures (ap not c.if-not-has_field.false)

pub returns-then-not-is_allowed : goal.returns-then-not-is_allowed
returns-then-not-is_allowed c =
    let a = c.args in
    length_bad a.recording.now a.at a.direction (sym c.has_field.ensures ∙ not-false _ (ap not c.if-not-has_field.false))
    (ap (length_allowed (direction_number a.direction)) (sym c.count_at-count.ensures) ∙ sym c.is_allowed.ensures ∙ not-true _ (ap not c.if-not-is_allowed.true))

pub returns-then-not-has_field-2 : goal.returns-then-not-has_field-2
returns-then-not-has_field-2 c =
    let a = c.args in
    let count_at = c.count_at-count in
    bytes_cut a.recording.now a.at a.direction (sym c.has_field.ensures ∙ not-false _ (ap not c.if-not-has_field.false))
    (ap (length_allowed (direction_number a.direction)) (sym count_at.ensures) ∙ sym c.is_allowed.ensures ∙ not-false _ (ap not c.if-not-is_allowed.false))
    (ap (λ (n : ℕ). leb (a.at + 5 + n) (length a.recording.now)) (sym count_at.ensures) ∙ sym c.has_field-2.ensures ∙ not-true _ (ap not c.if-not-has_field-2.true))

pub overflow_add-result : goal.overflow_add-result
overflow_add-result c =
    let a = c.args in
    omega (arith, room (a.at + 5) c.count_at-count.result (length a.recording.now) _ c.has_field-2.ensures (ap not c.if-not-has_field-2.false))

pub returns : goal.returns
returns c =
    let count_at = c.count_at-count in
    let a = c.args in
    rw count_at.ensures (bytes_there a.recording.now a.at a.direction (sym c.has_field.ensures ∙ not-false _ (ap not c.if-not-has_field.false)) (ap (length_allowed (direction_number a.direction)) (sym count_at.ensures) ∙ sym c.is_allowed.ensures ∙ not-false _ (ap not c.if-not-is_allowed.false)) (ap (λ (n : ℕ). leb (a.at + 5 + n) (length a.recording.now)) (sym count_at.ensures) ∙ sym c.has_field-2.ensures ∙ not-false _ (ap not c.if-not-has_field-2.false)))
