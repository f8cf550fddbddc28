-- `profile::locate` meets its contract. The search by the test is that for the address, and a place that was found holds it. Assumes nothing.
use mathlib.Core.Path.{◌∙◌}
use borrow.Author.Rules.{rules}
use Rattle.profile.specs.Areas.{areas_of, inside}
use Rattle.profile.proofs.Places.{bounded}
use Rattle.profile.proofs.Search.{place_first}
use Rattle.profile.proofs.locate.Goals as goal

pub returns : goal.returns
returns c =
    let a = c.args in
    let found = c.first_where.ensures in
    let is = found.is (λ k. inside k a.address) (λ k b h. search rules) ∙ place_first a.address 0 (areas_of a.profile) in
    record { is = is; bounds = bounded (areas_of a.profile) a.address c.first_where.result is found.bound }
