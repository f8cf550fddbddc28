-- `flash_blank::first_dirty` meets its contract. The search starts behind the front that is blank; the loops' invariant: no byte passed changes what the search comes to. Assumes nothing.
use Rattle.std.proofs.Common.{arith, refl, sym, ◌≡◌, ◌<◌, ◌≤◌, ◌+◌, ◌*◌, ◌/◌, ℕ, length-take, length-drop, max, subst, add-mul, one-mul}
use Rattle.flash_blank.proofs.Units.{Left, left_behind, part_found, unit_of}
use Rattle.flash_blank.proofs.first_dirty.Goals as goal

pub units-init : goal.units-init
units-init c =
    let l = c.args.target.now in
    let step = c.max-step.result in
    let front = c.passed-front.result in
    let u = unit_of front step (omega arith) in
    let e : front ≡ max (front / step * step) front = omega arith in record {
      none = refl;
      reached = u.1;
      at = omega arith;
      left = subst (Left c.args.unit l) e (left_behind c.args.unit front l c.passed-front.ensures.0 c.passed-front.ensures.1);
    }

pub returns-then-byte : goal.returns-then-byte
returns-then-byte c =
    let w = c.loop-byte in
    let n = c.units.number in
    let step = c.max-step.result in
    let m : (n + 1) * step ≡ n * step + step = rw (add-mul, one-mul) refl in
    let lo : n * step ≤ c.max-from.result + w.byte-index = omega arith in
    let hi : c.max-from.result + w.byte-index < (n + 1) * step = omega (arith, length-take {A = ℕ}, length-drop {A = ℕ}) in
    sym (part_found _ _ _ _ _ w.invariant.left c.loop-byte-test.true n c.if-byte.true (rw c.max-step.ensures at lo) (rw c.max-step.ensures at hi))
