-- `flash::perform` meets its contract. Each act is one case; from 2^32 on nothing is stored, since no area goes so far. Assumes nothing.
use mathlib.Core.Path.{◌≡◌, refl, sym, ap, ◌∙◌}
use Prim.Native.Nat.{ℕ}
use lib.ListN.{take}
use native.Mathlib.Omega.{arith}
use Rattle.profile.proofs.Beyond.{owned_below}
use Rattle.profile.specs.Areas.{areas_of}
use Rattle.flash.specs.Acts.{performed}
use Rattle.flash.specs.Effects.{stored}
use Rattle.flash.proofs.Beyond.{stored_beyond}
use Rattle.flash.proofs.Performed.{performed_as, performed_cut}
use Rattle.flash.proofs.perform.Goals as goal

pub returns-in-Nothing : goal.returns-in-Nothing
unfolding performed
returns-in-Nothing c = let a = c.args in performed_as (areas_of a.profile) a.bytes.now a.image.now c.in-Nothing.is refl

pub returns-in-EraseRange : goal.returns-in-EraseRange
unfolding performed
returns-in-EraseRange c = let a = c.args in performed_as (areas_of a.profile) a.bytes.now a.image.now c.in-EraseRange.is c.erase.ensures

pub returns-in-EraseAll : goal.returns-in-EraseAll
unfolding performed
returns-in-EraseAll c = let a = c.args in performed_as (areas_of a.profile) a.bytes.now a.image.now c.in-EraseAll.is c.erase_all.ensures

pub returns-in-Ok : goal.returns-in-Ok
returns-in-Ok c =
    let a = c.args in
    let store = c.in-Store in
    let areas = areas_of a.profile in
    let is : c.in-Ok.address ≡ store.address = omega arith in
    performed_as areas a.bytes.now a.image.now store.is
    (c.store.ensures
    ∙ ap (λ (x : ℕ). stored areas x (take c.min.result a.bytes.now) a.image.now) is
    ∙ performed_cut areas store.address store.count c.min.result a.bytes.now a.image.now c.min.ensures)

pub returns-in_default : goal.returns-in_default
unfolding performed
returns-in_default c =
    let a = c.args in
    let store = c.in-Store in
    performed_as (areas_of a.profile) a.bytes.now a.image.now store.is
    (sym (stored_beyond a.profile store.address (take store.count a.bytes.now) a.image.now (owned_below a.profile _ c.well_formed.1.0) (omega arith)))
