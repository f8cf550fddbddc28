-- `flash_blank::passed` meets its contract. Assumes nothing.
use Rattle.std.proofs.Common.{arith}
use Rattle.flash_blank.proofs.Units.{front_start}
use Rattle.flash_blank.proofs.passed.Goals as goal

pub blank_front-far-requires : goal.blank_front-far-requires
blank_front-far-requires c = (omega arith, omega arith, front_start c.args.target.now)
