-- `packet_gather::place` meets its contract. The part is as long as the bytes that it is to hold, and put back it is the copy. Assumes nothing.
use Rattle.packet_gather.proofs.Adding.{as_many, placed, placed_one}
use lib.Seq.{length-take-le}
use native.Mathlib.Omega.{arith}
use mathlib.Core.Path.{sym}
use Rattle.packet_gather.proofs.place.Goals as goal

pub returns-then-count-eq1 : goal.returns-then-count-eq1
returns-then-count-eq1 c = let a = c.args in placed_one a.receive.now a.from.now a.at a.count c.if-count-eq1.true c.requires.0 c.requires.1

pub slice_bounds-copy-end : goal.slice_bounds-copy-end
slice_bounds-copy-end c = let a = c.args in sym (length-take-le a.count a.from.now c.requires.1)

pub copy-requires : goal.copy-requires
copy-requires c = let a = c.args in
    let e = as_many a.receive.now a.from.now a.at a.count c.requires.0 c.requires.1 in
    omega (arith, e)

pub returns : goal.returns
returns c = let a = c.args in
    placed a.receive.now a.from.now a.at a.count c.requires.0 c.requires.1 c.copy.new.to c.copy.ensures
