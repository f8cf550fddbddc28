-- `interface::indraveck_start` meets its contract. The state that the refusal tells is always written. Assumes nothing.
use Rattle.interface.proofs.Written.{started}
use lib.ListN.{length}
use Rattle.interface.proofs.indraveck_start.Goals as goal

pub returns : goal.returns
returns c =
    let begin = c.begin-begun in
    let number = c.number-number in
    let put = c.put in
    let a = c.args in
    started a.profile.now (length a.image.now) a.state.now put.new.state begin.result begin.ensures number.result number.ensures
    put.ensures
