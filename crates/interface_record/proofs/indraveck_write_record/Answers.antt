-- `interface_record::indraveck_write_record` meets its contract. A number that is no byte is no direction; the rest is what the writer answered. Assumes nothing.
use mathlib.Core.Path.{refl, sym, ap, ◌∙◌}
use Rattle.interface_record.proofs.Outcome.{written_bytes, number_refused}
use Rattle.interface_record.specs.Post.{written_number, place_by}
use Rattle.interface_record.proofs.indraveck_write_record.Goals as goal

pub returns-then-direction-gt255 : goal.returns-then-direction-gt255
returns-then-direction-gt255 c =
    let a = c.args in
    number_refused a.direction a.at a.bytes.now a.buffer.now c.if-direction-gt255.true _ _ (c.from-then-direction-gt255.ensures ∙ c.from.ensures) refl

pub returns-in-Ok : goal.returns-in-Ok
returns-in-Ok c =
    let a = c.args in
    let write_record = c.write_record in
    written_bytes a.direction a.at a.bytes.now a.buffer.now write_record.new.buffer _ write_record.ensures _ _ (ap written_number (sym c.in-Ok.is))
    (ap (place_by a.at) (sym c.in-Ok.is))

pub returns-in-Err : goal.returns-in-Err
returns-in-Err c =
    let a = c.args in
    let write_record = c.write_record in
    written_bytes a.direction a.at a.bytes.now a.buffer.now write_record.new.buffer _ write_record.ensures _ _ (c.from-in-Err-2.ensures ∙ c.from-in-Err.ensures ∙ ap written_number (sym c.in-Err.is))
    (ap (place_by a.at) (sym c.in-Err.is))
