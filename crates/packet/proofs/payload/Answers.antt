-- `packet::payload` meets its contract. A good packet has as many bytes as it says, so its contents are all between the length bytes and SUM. Assumes nothing.
use mathlib.Core.Bool.{not}
use mathlib.Core.Path.{ap}
use Rattle.packet.proofs.Contents.{payload_short, payload_none, payload_at_short, payload_at_none, payload_at_part, payload_room, payload_part}
use Rattle.std.proofs.Common.{sym, refl, ◌∙◌, arith, length-take-le}
use borrow.Author.Tests.{not-true, not-false}
use Rattle.packet.proofs.payload.Goals as goal

pub returns-then-receive-count : goal.returns-then-receive-count
returns-then-receive-count c =
    let a = c.args in
    let short = c.if-receive-count.true in
    record { bytes = payload_short a.receive.now a.count short; block = refl; start = omega (arith, payload_at_short a.receive.now a.count short) }

pub slice_bounds-is_good-end : goal.slice_bounds-is_good-end
slice_bounds-is_good-end c = sym (length-take-le c.args.count c.args.receive.now c.if-receive-count.false)

pub returns-then-not-is_good : goal.returns-then-not-is_good
returns-then-not-is_good c =
    let a = c.args in
    let h = c.if-receive-count.false in
    let g = sym c.is_good.ensures ∙ not-true _ (ap not c.if-not-is_good.true) in
    record { bytes = payload_none a.receive.now a.count h g; block = refl; start = omega (arith, payload_at_none a.receive.now a.count h g) }

pub overflow_sub-end : goal.overflow_sub-end
overflow_sub-end c = omega (arith, payload_room c.args.receive.now c.args.count c.if-receive-count.false (sym c.is_good.ensures ∙ not-false _ (ap not c.if-not-is_good.false)))

pub slice_bounds-result-count-2 : goal.slice_bounds-result-count-2
slice_bounds-result-count-2 c = omega (arith, payload_room c.args.receive.now c.args.count c.if-receive-count.false (sym c.is_good.ensures ∙ not-false _ (ap not c.if-not-is_good.false)))

pub slice_bounds-result-start-2 : goal.slice_bounds-result-start-2
slice_bounds-result-start-2 c = omega (arith, payload_room c.args.receive.now c.args.count c.if-receive-count.false (sym c.is_good.ensures ∙ not-false _ (ap not c.if-not-is_good.false)))

pub returns : goal.returns
returns c =
    let a = c.args in
    let h = c.if-receive-count.false in
    let g = sym c.is_good.ensures ∙ not-false _ (ap not c.if-not-is_good.false) in
    record { bytes = payload_part a.receive.now a.count h g; block = refl; start = omega (arith, payload_at_part a.receive.now a.count h g) }
