-- `baud::divisor` meets its contract. The product of the bounds of D and BRR + 1 bounds the divisor. Assumes nothing.
use mathlib.Core.Path.{refl}
use native.Mathlib.Omega.{arith}
use Rattle.baud.proofs.Laws.{divisor_below}
use Rattle.baud.proofs.divisor.Goals as goal

pub overflow_mul-result-2 : goal.overflow_mul-result-2
overflow_mul-result-2 c = omega (arith, divisor_below c.requires.0 c.requires.1)

pub returns : goal.returns
returns c = (refl, divisor_below c.requires.0 c.requires.1)
