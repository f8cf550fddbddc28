-- `device::feeding::run` meets its contract: the bytes that come first, and what the rest gives after them. Assumes nothing.
use mathlib.Core.Path.{refl}
use native.Mathlib.Omega.{arith}
use Rattle.device.proofs.Turns.{turned_first, ran_end, ran_rest, rest_fits}
use Rattle.device_calls.specs.Calls.{buffers}
use Rattle.device.proofs.feeding.run.Goals as goal

pub returns-then-input-taken : goal.returns-then-input-taken
returns-then-input-taken c =
    let a = c.args in
    ran_end (turned_first a.profile (buffers a.image.now a.receive.now a.reply.now) a.input.now a.state _ _
    c.requires c.add-taken.ensures
    c.with_held-first.ensures) refl c.if-input-taken.true

pub turns-rest-requires : goal.turns-rest-requires
turns-rest-requires c =
    let a = c.args in
    (turned_first a.profile (buffers a.image.now a.receive.now a.reply.now) a.input.now a.state _ _
    c.requires
    c.add-taken.ensures
    c.with_held-first.ensures).ready

pub overflow_add-result : goal.overflow_add-result
overflow_add-result c =
    let a = c.args in
    omega (
      arith,
      rest_fits
          (turned_first a.profile (buffers a.image.now a.receive.now a.reply.now) a.input.now a.state _ _ c.requires c.add-taken.ensures c.with_held-first.ensures)
          c.turns-rest.ensures,
      c.well_formed.1.1.1.1.1,
    )

pub returns : goal.returns
returns c =
    let a = c.args in
    ran_rest (turned_first a.profile (buffers a.image.now a.receive.now a.reply.now) a.input.now a.state _ _
    c.requires
    c.add-taken.ensures
    c.with_held-first.ensures)
    c.if-input-taken.false
    c.turns-rest.ensures
