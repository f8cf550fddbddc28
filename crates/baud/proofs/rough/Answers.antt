-- `baud::rough` meets its contract. BRT times the divisor fits, as both have bounds. Assumes nothing.
use native.Mathlib.Omega.{arith}
use Rattle.baud.proofs.Laws.{scaled}
use Rattle.baud.proofs.rough.Goals as goal

pub overflow_mul-brt : goal.overflow_mul-brt
overflow_mul-brt c = omega (arith, scaled 2097152 c.ranges.brt.fits c.requires)
