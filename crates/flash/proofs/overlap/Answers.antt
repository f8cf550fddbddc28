-- `flash::overlap` meets its contract. The part's ends are counted from the bytes below the range's ends. Assumes nothing.
use native.Mathlib.Omega.{arith}
use Rattle.flash.proofs.Meets.{meets}
use Rattle.flash.proofs.overlap.Goals as goal

pub returns : goal.returns
returns c =
    let a = c.args in
    meets a.area a.base a.size a.first a.behind _ _ (omega arith) c.border-to.ensures
