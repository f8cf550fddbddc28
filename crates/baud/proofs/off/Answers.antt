-- `baud::off` meets its contract. Both products fit, as their factors have bounds; the rest is the definition, call by call. Assumes nothing.
use native.Mathlib.Omega.{arith}
use Rattle.baud.proofs.Laws.{both_below, off_is}
use Rattle.baud.proofs.off.Goals as goal

pub overflow_mul-wanted : goal.overflow_mul-wanted
overflow_mul-wanted c =
    let b = c.ranges in
    omega (arith, both_below b.sci.fits b.brt.fits c.divisor-over.ensures.1 c.limit-m.ensures.most)

pub overflow_mul-given : goal.overflow_mul-given
overflow_mul-given c =
    let b = c.ranges in
    omega (arith, both_below b.sci.fits b.brt.fits c.divisor-over.ensures.1 c.limit-m.ensures.most)

pub overflow_mul-result : goal.overflow_mul-result
overflow_mul-result c =
    let b = c.ranges in
    omega (arith, both_below b.sci.fits b.brt.fits c.divisor-over.ensures.1 c.limit-m.ensures.most)

pub overflow_mul-result-2 : goal.overflow_mul-result-2
overflow_mul-result-2 c =
    let b = c.ranges in
    omega (arith, both_below b.sci.fits b.brt.fits c.divisor-over.ensures.1 c.limit-m.ensures.most)

pub returns : goal.returns
returns c =
    off_is _ _ _ _ _ _ _
    c.clock.ensures.is
    c.divisor-over.ensures.0
    c.rough.ensures
    c.limit-m.ensures.counts
    c.apart.ensures.0
