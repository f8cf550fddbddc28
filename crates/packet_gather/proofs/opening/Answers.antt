-- `packet_gather::opening` meets its contract. What begins a packet lacks no more than a longest one has, so the sum fits. Assumes nothing.
use mathlib.Core.Bool.{not}
use borrow.Author.Tests.{not-true, not-false}
use native.Mathlib.Omega.{arith}
use Prim.Native.Nat.{ℕ, ◌+◌}
use mathlib.Core.Path.{◌∙◌, sym, ap}
use lib.Seq.{length-take-le}
use lib.ListN.{take}
use Rattle.packet_gather.proofs.Adding.{open_few, open_none, open_some, lack_few}
use Rattle.packet_gather.proofs.opening.Goals as goal

pub returns-then-input-lt3 : goal.returns-then-input-lt3
returns-then-input-lt3 c = open_few c.args.kind c.args.input.now c.if-input-lt3.true

pub slice_bounds-waits-end : goal.slice_bounds-waits-end
slice_bounds-waits-end c = sym (length-take-le 3 c.args.input.now c.if-input-lt3.false)

pub returns-then-not-waits : goal.returns-then-not-waits
returns-then-not-waits c = open_none c.args.kind c.args.input.now c.if-input-lt3.false (sym c.waits.ensures ∙ not-true _ (ap not c.if-not-waits.true))

pub slice_bounds-lacking-end : goal.slice_bounds-lacking-end
slice_bounds-lacking-end c = sym (length-take-le 3 c.args.input.now c.if-input-lt3.false)

pub overflow_add-result : goal.overflow_add-result
overflow_add-result c =
    let a = c.args in
    omega (
      arith,
      c.lacking.ensures,
      lack_few a.kind (take 3 a.input.now)
          (sym c.waits.ensures ∙ not-false _ (ap not c.if-not-waits.false)),
    )

pub returns : goal.returns
returns c =
    let a = c.args in
    ap (λ (k : ℕ). k + 3) c.lacking.ensures ∙ open_some a.kind a.input.now c.if-input-lt3.false
    (sym c.waits.ensures ∙ not-false _ (ap not c.if-not-waits.false))
