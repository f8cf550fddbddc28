-- `id_code::sixteen` meets its contract. The part is copied to the front of sixteen FFh, which stay where the image has no bytes. Assumes nothing.
use mathlib.Core.Path.{◌∙◌}
use lib.ListN.{drop}
use Rattle.id_code.specs.Identity.{no_id}
use Rattle.id_code.proofs.Padded.{laid, padded}
use Rattle.id_code.proofs.sixteen.Goals as goal

pub returns : goal.returns
returns c =
    let a = c.args in
    laid a.image.now no_id c.copy.new.to a.base 16
    c.min-from.result
    c.min-end.result
    c.min-from.ensures
    c.min-end.ensures
    c.copy.ensures
    ∙ padded (drop a.base a.image.now) 16 0xFF
