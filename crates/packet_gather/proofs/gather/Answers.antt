-- `packet_gather::gather` meets its contract. What is held then fits, so the buffer has room for it. Assumes nothing.
use mathlib.Core.Path.{ap, sym, ◌∙◌}
use Prim.Native.Nat.{ℕ, min}
use native.Mathlib.Omega.{arith}
use lib.ListN.{length}
use lib.Seq.{length-take-le}
use Rattle.packet_gather.proofs.Adding.{taken_there, taken_room}
use Rattle.packet_gather.proofs.gather.Goals as goal

pub slice_bounds-gain-end-2 : goal.slice_bounds-gain-end-2
slice_bounds-gain-end-2 c = sym (length-take-le c.args.held c.args.receive.now c.requires.inside)

pub place-requires : goal.place-requires
place-requires c =
    let pre = c.requires in
    let a = c.args in
    let e = c.min-taken.ensures ∙ ap (λ (k : ℕ). min k (length a.input.now)) c.gain.ensures in (
      omega (arith, taken_room a.kind a.held a.receive.now a.input.now (pre) c.min-taken.result e),
      taken_there a.kind a.held
          a.receive.now a.input.now (pre) c.min-taken.result e,
    )

pub returns : goal.returns
returns c =
    let input = c.args.input.now in
    record {
      taken = c.min-taken.ensures ∙ ap (λ (k : ℕ). min k (length input)) c.gain.ensures;
      receive = c.place.ensures;
    }
