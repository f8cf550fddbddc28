-- `host_plan::size_for` meets its contract. Whole units are no more than what they are taken of. Assumes nothing.
use native.Mathlib.Omega.{arith}
use native.Mathlib.Nat.{div-add-mod'}
use Rattle.host_plan.proofs.size_for.Goals as goal

pub overflow_mul-result : goal.overflow_mul-result
overflow_mul-result c = omega (arith, div-add-mod' 1024 c.args.unit)
