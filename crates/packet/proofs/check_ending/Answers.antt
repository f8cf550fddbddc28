-- `packet::check_ending` meets its contract. Each return follows from the tests on its way; the part that is summed is all but start byte and ETX. Assumes nothing.
use Rattle.std.proofs.Common.{◌≡◌, ◌-◌, length, arith, le-ltb, lt-ltb, eq-eqb, ne_eqb}
use Rattle.packet.specs.Packet.{ending_checks}
use Rattle.verdict.specs.Check.{first_fault}
use Rattle.packet.proofs.check_ending.Goals as goal

pub returns-then-n-lt2 : goal.returns-then-n-lt2
unfolding first_fault ending_checks
returns-then-n-lt2 c = simp (lt-ltb _ _ c.if-n-lt2.true)

pub returns-then-packet-n-ne3 : goal.returns-then-packet-n-ne3
unfolding first_fault ending_checks
returns-then-packet-n-ne3 c = simp (le-ltb _ _ c.if-n-lt2.false, ne_eqb _ _ c.if-packet-n-ne3.true)

pub returns-then-sum-ne0 : goal.returns-then-sum-ne0
unfolding first_fault ending_checks
returns-then-sum-ne0 c = let n = length c.args.packet.now in
    let e : n - 2 ≡ n - 1 - 1 = omega arith in
    simp (le-ltb _ _ c.if-n-lt2.false, eq-eqb _ _ c.if-packet-n-ne3.false, e, ← c.sum.ensures, ne_eqb _ _ c.if-sum-ne0.true)

pub returns : goal.returns
unfolding first_fault ending_checks
returns c = let n = length c.args.packet.now in
    let e : n - 2 ≡ n - 1 - 1 = omega arith in
    simp (le-ltb _ _ c.if-n-lt2.false, eq-eqb _ _ c.if-packet-n-ne3.false, e, ← c.sum.ensures, eq-eqb _ _ c.if-sum-ne0.false)
