-- `record_writer::fill` meets its contract. The stores are those of the head, one after the other, and the copy fills what is left. Assumes nothing.
use native.Mathlib.Omega.{arith}
use lib.ListN.{length, length-set}
use Rattle.record_writer.proofs.Laws.{start_length, filled, as_long}
use Rattle.numbers.proofs.Copied.{part_count}
use Rattle.record_writer.proofs.fill.Goals as goal

pub bounds-part-1 : goal.bounds-part-1
bounds-part-1 c = simp length-set (omega (arith, c.requires.1))

pub bounds-part-2 : goal.bounds-part-2
bounds-part-2 c = simp length-set (omega (arith, c.requires.1))

pub slice_bounds-copy-count : goal.slice_bounds-copy-count
slice_bounds-copy-count c =
    let a = c.args in
    omega (arith, start_length a.part.now _ a.bytes.now a.bytes.now a.direction c.requires.1 c.write.ensures.leaves)

pub slice_bounds-copy-start : goal.slice_bounds-copy-start
slice_bounds-copy-start c =
    let a = c.args in
    omega (arith, start_length a.part.now _ a.bytes.now a.bytes.now a.direction c.requires.1 c.write.ensures.leaves)

pub copy-requires : goal.copy-requires
copy-requires c =
    let w = c.write.new.buffer in
    omega (arith, start_length c.args.part.now w c.args.bytes.now c.args.bytes.now c.args.direction c.requires.1 c.write.ensures.leaves, part_count 5 (length w) w (omega arith))

pub shape_of-part : goal.shape_of-part
shape_of-part c =
    let a = c.args in
    let write_two = c.write in
    let copy = c.copy in
    let pre = c.requires in
    as_long a.part.now write_two.new.buffer copy.new.to a.bytes.now a.direction pre.1 write_two.ensures.leaves copy.ensures

pub returns : goal.returns
returns c =
    let a = c.args in
    let write_two = c.write in
    let copy = c.copy in
    let pre = c.requires in
    filled a.part.now write_two.new.buffer copy.new.to a.bytes.now a.direction pre.1 write_two.ensures.leaves copy.ensures
