-- `flash::fetch` meets its contract. Both answers are read off the place that `locate` finds. Assumes nothing.
use mathlib.Core.Path.{refl, subst}
use native.Mathlib.Omega.{arith}
use Rattle.profile.specs.Areas.{areas_of}
use Rattle.profile.specs.Places.{Bounded}
use Rattle.flash.specs.Effects.{fetched_at, fetch_start_at}
use Rattle.flash.proofs.Clip.{fetched_as}
use Rattle.std.specs.Prelude.{Some, None}
use Rattle.flash.proofs.fetch.Goals as goal

pub fetch_at-requires : goal.fetch_at-requires
fetch_at-requires c = subst (Bounded c.args.address) c.in-Some.is c.locate.ensures.bounds

pub returns-in-None : goal.returns-in-None
unfolding fetched_at fetch_start_at
returns-in-None c =
    let a = c.args in
    let found = c.locate in
    fetched_as (areas_of a.profile) a.address a.count found.result None found.ensures.is c.in-None.is
    (record { bytes = refl; block = refl; start = omega arith })

pub returns-in-Some : goal.returns-in-Some
returns-in-Some c =
    let a = c.args in
    let found = c.locate in
    fetched_as (areas_of a.profile) a.address a.count found.result (Some c.in-Some.spot) found.ensures.is c.in-Some.is
    c.fetch_at.ensures
