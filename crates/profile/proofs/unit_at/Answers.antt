-- `profile::unit_at` meets its contract. From 2^32 on there is no area, since none goes so far. Assumes nothing.
use mathlib.Core.Path.{sym, ap}
use native.Mathlib.Omega.{arith}
use Rattle.profile.specs.Places.{unit_at}
use Rattle.profile.proofs.Beyond.{owned_below, place_beyond}
use Rattle.profile.proofs.unit_at.Goals as goal

pub returns-in_default : goal.returns-in_default
returns-in_default c = let a = c.args in sym (ap unit_at (place_beyond a.profile a.address (owned_below a.profile _ c.well_formed.0) (omega arith)))
