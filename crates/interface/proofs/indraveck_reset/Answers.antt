-- `interface::indraveck_reset` meets its contract. The state is written where the number is 0. Assumes nothing.
use Rattle.interface.proofs.Written.{was_reset}
use lib.ListN.{length}
use Rattle.interface.proofs.indraveck_reset.Goals as goal

pub returns : goal.returns
returns c =
    let begin = c.begin-begun in
    let number = c.number-number in
    let put = c.put in
    let a = c.args in
    was_reset a.profile.now (length a.image.now) a.state.now put.new.state begin.result begin.ensures number.result
    number.ensures put.ensures
