-- `packet::measured` meets its contract. Each return follows from the tests on its way. A permitted length is at most 1,025, so the sum does not wrap. Assumes nothing.
use mathlib.Core.Bool.{not}
use mathlib.Core.Path.{ap}
use Rattle.packet.proofs.Laws.{permitted_below}
use Rattle.packet.specs.Packet.{measured_of}
use Rattle.std.proofs.Common.{sym, ◌∙◌, arith, le-ltb, lt-ltb, eq-eqb, ne_eqb}
use borrow.Author.Tests.{not-true, not-false}
use Rattle.packet.proofs.measured.Goals as goal

pub returns-then-not-is_permitted : goal.returns-then-not-is_permitted
unfolding measured_of
returns-then-not-is_permitted c = simp (sym c.is_permitted.ensures ∙ not-true _ (ap not c.if-not-is_permitted.true))

pub overflow_add-length : goal.overflow_add-length
overflow_add-length c = omega (arith, permitted_below c.args.kind c.args.length (sym c.is_permitted.ensures ∙ not-false _ (ap not c.if-not-is_permitted.false)))

pub returns-then-count-length : goal.returns-then-count-length
unfolding measured_of
returns-then-count-length c = simp (sym c.is_permitted.ensures ∙ not-false _ (ap not c.if-not-is_permitted.false), lt-ltb _ _ c.if-count-length.true)

pub overflow_add-length-2 : goal.overflow_add-length-2
overflow_add-length-2 c = omega (arith, permitted_below c.args.kind c.args.length (sym c.is_permitted.ensures ∙ not-false _ (ap not c.if-not-is_permitted.false)))

pub returns-then-count-length-2 : goal.returns-then-count-length-2
unfolding measured_of
returns-then-count-length-2 c = simp (sym c.is_permitted.ensures ∙ not-false _ (ap not c.if-not-is_permitted.false), le-ltb _ _ c.if-count-length.false, eq-eqb _ _ c.if-count-length-2.true)

pub returns-else-count-length-2 : goal.returns-else-count-length-2
unfolding measured_of
returns-else-count-length-2 c = simp (sym c.is_permitted.ensures ∙ not-false _ (ap not c.if-not-is_permitted.false), le-ltb _ _ c.if-count-length.false, ne_eqb _ _ c.if-count-length-2.false)
