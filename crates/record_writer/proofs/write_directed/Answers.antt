-- `record_writer::write_directed` meets its contract. The tests are the checks behind the direction; what is filled is the record. Assumes nothing.
use mathlib.Core.Bool.{not}
use mathlib.Core.Path.{refl, sym, ap, ◌∙◌}
use Prim.Native.Nat.{ℕ, ◌+◌}
use native.Mathlib.Omega.{arith}
use lib.ListN.{length}
use borrow.Author.Tests.{not-true, not-false}
use Rattle.recording.specs.Format.{direction_number, entry}
use Rattle.record_writer.proofs.Laws.{length_refused, room_refused, record_written}
use Rattle.recording.proofs.Written.{allowed_most}
use Rattle.numbers.proofs.Copied.{part_count}
use Rattle.numbers.proofs.Laws.{room}
use Rattle.record_writer.proofs.write_directed.Goals as goal

pub returns-then-not-is_allowed : goal.returns-then-not-is_allowed
returns-then-not-is_allowed c =
    let a = c.args in
    length_refused a.direction a.at a.bytes.now a.buffer.now (sym c.is_allowed.ensures ∙ not-true _ (ap not c.if-not-is_allowed.true))

pub returns-then-not-has_field : goal.returns-then-not-has_field
returns-then-not-has_field c =
    let a = c.args in
    room_refused a.direction a.at a.bytes.now a.buffer.now (sym c.is_allowed.ensures ∙ not-false _ (ap not c.if-not-is_allowed.false))
    (sym c.has_field.ensures ∙ not-true _ (ap not c.if-not-has_field.true))

pub overflow_add-behind : goal.overflow_add-behind
overflow_add-behind c =
    let a = c.args in
    omega (arith, room a.at (length a.bytes.now + 5) (length a.buffer.now) _ c.has_field.ensures (ap not c.if-not-has_field.false))

pub slice_bounds-fill-end : goal.slice_bounds-fill-end
slice_bounds-fill-end c =
    let a = c.args in
    room a.at (length a.bytes.now + 5) (length a.buffer.now) _ c.has_field.ensures (ap not c.if-not-has_field.false)

pub fill-requires : goal.fill-requires
fill-requires c =
    let a = c.args in
    (allowed_most (direction_number a.direction) (length a.bytes.now) (sym c.is_allowed.ensures ∙ not-false _ (ap not c.if-not-is_allowed.false)), part_count a.at (a.at + (length a.bytes.now + 5)) a.buffer.now (room a.at (length a.bytes.now + 5) (length a.buffer.now) _ c.has_field.ensures (ap not c.if-not-has_field.false)) ∙ omega arith)

pub returns : goal.returns
returns c =
    let a = c.args in
    let is-allowed = c.is_allowed in
    let if1 = c.if-not-is_allowed in
    let fill = c.fill in
    record_written a.direction a.at a.bytes.now a.buffer.now (sym is-allowed.ensures ∙ not-false _ (ap not if1.false)) (sym c.has_field.ensures ∙ not-false _ (ap not c.if-not-has_field.false))
    _ fill.new.part (fill.ensures ∙ ap (λ (n : ℕ). entry n a.bytes.now) c.from.ensures) refl
