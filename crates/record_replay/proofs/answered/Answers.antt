-- `record_replay::answered` meets its contract. A part that waits lies before the head, and the landing place is small enough to be moved by its length. Assumes nothing.
use Rattle.record_replay.proofs.Playing.{waited, can_move, device_alone, device_answers}
use Rattle.recording.proofs.Reading.{found_lies}
use Prim.Native.Nat.{◌+◌}
use native.Mathlib.Omega.{arith}
use Rattle.record_replay.proofs.answered.Goals as goal

pub slice_bounds-replay_exchange-count : goal.slice_bounds-replay_exchange-count
slice_bounds-replay_exchange-count c = omega (arith, waited c.requires.0 c.in-Some.is, found_lies _ _ _ _ c.requires.1)

pub slice_bounds-replay_exchange-start : goal.slice_bounds-replay_exchange-start
slice_bounds-replay_exchange-start c = omega (arith, waited c.requires.0 c.in-Some.is, found_lies _ _ _ _ c.requires.1)

pub slice_bounds-replay_exchange-end : goal.slice_bounds-replay_exchange-end
slice_bounds-replay_exchange-end c = omega (arith, waited c.requires.0 c.in-Some.is, found_lies _ _ _ _ c.requires.1, c.requires.0.inside)

pub slice_bounds-replay_exchange-count-in-Some : goal.slice_bounds-replay_exchange-count-in-Some
slice_bounds-replay_exchange-count-in-Some c = omega (arith, waited c.requires.0 c.in-Some.is, found_lies _ _ _ _ c.requires.1)

pub slice_bounds-replay_exchange-start-in-Some : goal.slice_bounds-replay_exchange-start-in-Some
slice_bounds-replay_exchange-start-in-Some c = omega (arith, waited c.requires.0 c.in-Some.is, found_lies _ _ _ _ c.requires.1)

pub slice_bounds-replay_exchange-end-in-Some : goal.slice_bounds-replay_exchange-end-in-Some
slice_bounds-replay_exchange-end-in-Some c =
    let pre = c.requires in
    omega (arith, waited pre.0 c.in-Some.is, found_lies _ _ _ _ pre.1, pre.0.inside)

pub replay_exchange-requires : goal.replay_exchange-requires
replay_exchange-requires c =
    let pre = c.requires in
    let a = c.args in
    let w = waited pre.0 c.in-Some.is in
    can_move a.head.landing (4294967295 + c.in-Some.request.from) _ w.2 (omega (arith, w, found_lies _ _ _ _ pre.1, pre.0.inside))

pub returns-in-None : goal.returns-in-None
returns-in-None c = let a = c.args in
    device_alone a.profile a.recording.now a.image.now a.head c.requires.0 a.part c.requires.1 c.in-None.is

pub returns-in-Some : goal.returns-in-Some
returns-in-Some c =
    let pre = c.requires in
    let a = c.args in
    device_answers a.profile a.recording.now a.image.now a.head pre.0 a.part c.in-Some.request _ _ pre.1 c.in-Some.is
    (λ i. (c.shared_slice_known-1.given i).fits)
    c.replay_exchange.ensures
