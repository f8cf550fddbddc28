-- `device::feeding::turns` meets its contract. The loop keeps that the whole delivery gives what its rest gives, later by the bytes done, and that no reply came. Assumes nothing.
use Rattle.device_calls.specs.Calls.{buffers}
use Rattle.device.proofs.Steps.{few, room, stood_done}
use Rattle.device.proofs.Turns.{turned_none, turned_holds, turned_more, turned_on, fits_in, ran_reply, ran_end}
use lib.ListN.{length}
use lib.Seq.{length-take-le}
use native.Mathlib.Omega.{arith}
use Prim.Native.Nat.{◌+◌}
use mathlib.Core.Path.{refl, sym, ap, ◌∙◌}
use Rattle.device.proofs.feeding.turns.Goals as goal

pub loop-i-init : goal.loop-i-init
loop-i-init c = let a = c.args in (turned_none a.profile (buffers a.image.now a.receive.now a.reply.now) a.input.now a.state c.requires, refl)

pub step-s-requires : goal.step-s-requires
step-s-requires c = c.loop-i.invariant.0.ready

pub overflow_add-i : goal.overflow_add-i
overflow_add-i c =
    omega (
      arith,
      c.loop-i-test.true,
      c.well_formed.1.1.1.1.1,
    )

pub slice_bounds-add-count : goal.slice_bounds-add-count
slice_bounds-add-count c = omega (arith, c.loop-i-test.true)

pub slice_bounds-add-start : goal.slice_bounds-add-start
slice_bounds-add-start c = omega (arith, c.loop-i-test.true)

pub add-taken-requires : goal.add-taken-requires
add-taken-requires c =
    let loop = c.loop-i in
    let step = c.step-s in
    let perform = c.perform in
    turned_holds (turned_on loop.invariant.0
    c.loop-i-test.true
    (stood_done loop.image (loop.now_state.held + 1) step.ensures c.info.ensures.bytes perform.ensures)
    c.if-count-ne0.false perform.auto.image step.auto.receive step.auto.reply)

pub overflow_add-now_state : goal.overflow_add-now_state
overflow_add-now_state c =
    let loop = c.loop-i in
    let step = c.step-s in
    let perform = c.perform in
    let t = (turned_on loop.invariant.0
    c.loop-i-test.true
    (stood_done loop.image (loop.now_state.held + 1) step.ensures c.info.ensures.bytes perform.ensures)
    c.if-count-ne0.false perform.auto.image step.auto.receive step.auto.reply) in
    omega (
      arith,
      fits_in t c.add-taken.ensures,
      t.receive,
      c.well_formed.1.1.1.0,
    )

pub overflow_add-i-in-loop-i : goal.overflow_add-i-in-loop-i
overflow_add-i-in-loop-i c =
    let loop = c.loop-i in
    let step = c.step-s in
    let perform = c.perform in
    let t = turned_more (turned_on loop.invariant.0
    c.loop-i-test.true
    (stood_done loop.image (loop.now_state.held + 1) step.ensures c.info.ensures.bytes perform.ensures)
    c.if-count-ne0.false perform.auto.image step.auto.receive step.auto.reply)
    c.add-taken.ensures c.with_held-now_state.ensures in
    omega (
      arith,
      t.within,
      c.well_formed.1.1.1.1.1,
    )

pub loop-i-smaller : goal.loop-i-smaller
loop-i-smaller c = omega (arith, c.loop-i-test.true)

pub loop-i-preserved : goal.loop-i-preserved
loop-i-preserved c =
    let loop = c.loop-i in
    let step = c.step-s in
    let perform = c.perform in
    let if1 = c.if-count-ne0 in (
      turned_more
          (turned_on loop.invariant.0 c.loop-i-test.true (stood_done loop.image (loop.now_state.held + 1) step.ensures c.info.ensures.bytes perform.ensures) if1.false perform.auto.image step.auto.receive step.auto.reply)
          c.add-taken.ensures c.with_held-now_state.ensures,
      if1.false,
    )

pub shape_of-image-after-loop-i : goal.shape_of-image-after-loop-i
shape_of-image-after-loop-i c = c.loop-i.invariant.0.image

pub shape_of-receive-after-loop-i : goal.shape_of-receive-after-loop-i
shape_of-receive-after-loop-i c = c.loop-i.invariant.0.receive

pub shape_of-reply-after-loop-i : goal.shape_of-reply-after-loop-i
shape_of-reply-after-loop-i c = ap length c.loop-i.invariant.0.reply

pub returns-after-loop-i : goal.returns-after-loop-i
returns-after-loop-i c = ran_end c.loop-i.invariant.0 c.loop-i.invariant.1 c.loop-i-test.false

pub shape_of-image-then-count-ne0 : goal.shape_of-image-then-count-ne0
shape_of-image-then-count-ne0 c = c.perform.auto.image ∙ c.loop-i.invariant.0.image

pub shape_of-receive-then-count-ne0 : goal.shape_of-receive-then-count-ne0
shape_of-receive-then-count-ne0 c =
    c.step-s.auto.receive
    ∙ c.loop-i.invariant.0.receive

pub shape_of-reply-then-count-ne0 : goal.shape_of-reply-then-count-ne0
shape_of-reply-then-count-ne0 c =
    c.step-s.auto.reply ∙ ap length
    c.loop-i.invariant.0.reply

pub returns-then-count-ne0 : goal.returns-then-count-ne0
returns-then-count-ne0 c =
    let loop = c.loop-i in
    ran_reply loop.invariant.0
    c.loop-i-test.true
    (stood_done loop.image (loop.now_state.held + 1)
    c.step-s.ensures
    c.info.ensures.bytes c.perform.ensures) c.if-count-ne0.true

pub overflow_add-n : goal.overflow_add-n
overflow_add-n c = omega (arith, few _ _ _ 0 c.loop-i.invariant.0.ready)

pub slice_bounds-info-end : goal.slice_bounds-info-end
slice_bounds-info-end c = omega (arith, room _ _ _ 0 c.loop-i.invariant.0.ready, c.step-s.auto.receive)

pub slice_bounds-info-end-in-loop-i : goal.slice_bounds-info-end-in-loop-i
slice_bounds-info-end-in-loop-i c = sym (length-take-le _ _ (omega (arith, room _ _ _ 0 c.loop-i.invariant.0.ready, c.step-s.auto.receive)))
