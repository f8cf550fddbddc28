-- `device::feeding::listen` meets its contract. Each case of what the bytes are to a packet leaves what the step defines. Assumes nothing.
use Rattle.device.proofs.Steps.{more_length, range_in, room, stood_astray, stood_excess, stood_partial, stood_unfit, stood_complete}
use Rattle.device_calls.specs.Calls.{buffers}
use lib.ListN.{length, length-set}
use Prim.Native.Nat.{◌<◌}
use native.Mathlib.Omega.{arith}
use Rattle.std.proofs.Common.{⊎_elim}
use Rattle.device.proofs.feeding.listen.Goals as goal

pub bounds-receive-at : goal.bounds-receive-at
bounds-receive-at c =
    let a = c.args in
    room a.profile a.state (buffers a.image.now a.receive.now a.reply.now) a.byte c.requires.0

pub slice_bounds-gathered-end : goal.slice_bounds-gathered-end
slice_bounds-gathered-end c =
    let a = c.args in
    let h : a.state.held < length a.receive.now = room a.profile a.state (buffers a.image.now a.receive.now a.reply.now) a.byte
    c.requires.0 in
    simp length-set (omega arith)

pub slice_bounds-gathered-end-2 : goal.slice_bounds-gathered-end-2
slice_bounds-gathered-end-2 c =
    let a = c.args in
    more_length a.receive.now a.state.held a.byte
    (room a.profile a.state (buffers a.image.now a.receive.now a.reply.now) a.byte c.requires.0)

pub returns-in-Astray : goal.returns-in-Astray
returns-in-Astray c =
    let a = c.args in
    let pre = c.requires in
    let l = buffers a.image.now a.receive.now a.reply.now in
    ⊎_elim (λ e. stood_astray a.profile a.state l a.byte pre.0 a.kind _ pre.1 c.gathered.ensures _ e c.holding.ensures)
    (λ e. stood_excess a.profile a.state l a.byte pre.0 a.kind _ pre.1 c.gathered.ensures _ e c.holding.ensures)
    c.in-Astray.is

pub returns-in-Partial : goal.returns-in-Partial
returns-in-Partial c =
    let a = c.args in
    let pre = c.requires in
    stood_partial a.profile a.state (buffers a.image.now a.receive.now a.reply.now) a.byte pre.0 a.kind _ pre.1
    c.gathered.ensures _ c.in-Partial.is c.holding-in-Partial.ensures

pub returns-in-Unfit : goal.returns-in-Unfit
returns-in-Unfit c =
    let a = c.args in
    let pre = c.requires in
    stood_unfit a.profile a.state (buffers a.image.now a.receive.now a.reply.now) a.byte pre.0 a.kind _ pre.1
    c.gathered.ensures _ _ c.in-Unfit.is
    c.refuse_early.ensures

pub returns-in-Complete : goal.returns-in-Complete
returns-in-Complete c =
    let a = c.args in
    let pre = c.requires in
    stood_complete a.profile a.state (buffers a.image.now a.receive.now a.reply.now) a.byte pre.0 a.kind _ pre.1
    c.gathered.ensures _ _ c.in-Complete.is
    c.decide.ensures

pub slice_bounds-decide-end : goal.slice_bounds-decide-end
slice_bounds-decide-end c =
    let a = c.args in
    let h : a.state.held < length a.receive.now = room a.profile a.state (buffers a.image.now a.receive.now a.reply.now) a.byte
    c.requires.0 in
    simp length-set (omega arith)

pub slice_bounds-decide-end-in-Complete : goal.slice_bounds-decide-end-in-Complete
slice_bounds-decide-end-in-Complete c =
    let a = c.args in
    more_length a.receive.now a.state.held a.byte (room a.profile a.state (buffers a.image.now a.receive.now a.reply.now)
    a.byte c.requires.0)

pub decide-requires : goal.decide-requires
decide-requires c =
    let a = c.args in
    let pre = c.requires in
    (pre.0.profile, range_in a.profile a.state a.receive.now pre.0.fit, pre.0.reply)
