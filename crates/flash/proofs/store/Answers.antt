-- `flash::store` meets its contract. A part to which the bytes for its addresses are copied has them stored. Assumes nothing.
use mathlib.Core.Path.{◌≡◌, sym, ◌∙◌}
use Prim.Native.Nat.{◌-◌}
use lib.ListN.{length, take, drop}
use borrow.Author.Rules.{rules}
use Rattle.flash.specs.Effects.{storing, stored}
use Rattle.flash.proofs.Writes.{storing_only, store_along}
use Rattle.flash.proofs.store.Goals as goal

pub returns : goal.returns
unfolding stored
returns c =
    let a = c.args in
    c.each_part.ensures (storing a.address a.bytes.now) (storing_only a.address a.bytes.now) (λ part at after h i w.
    let e : after.now ≡ take (length part.now) (drop (at - a.address) a.bytes.now) = search rules in
    e ∙ sym (store_along a.address a.bytes.now at part.now h i))
