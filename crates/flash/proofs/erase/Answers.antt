-- `flash::erase` meets its contract. A part that is filled is erased. Assumes nothing.
use mathlib.Core.Path.{◌≡◌, sym, ◌∙◌}
use lib.ListN.{length, replicate}
use borrow.Author.Rules.{rules}
use Rattle.flash.specs.Effects.{erasing, erased}
use Rattle.flash.proofs.Writes.{erasing_only, erase_along}
use Rattle.flash.proofs.erase.Goals as goal

pub returns : goal.returns
unfolding erased
returns c =
    let a = c.args in
    c.each_part.ensures (erasing a.sad a.ead) (erasing_only a.sad a.ead) (λ part at after h i w.
    let e : after.now ≡ replicate (length part.now) 0xFF = search rules in
    e ∙ sym (erase_along a.sad a.ead at part.now h i))
