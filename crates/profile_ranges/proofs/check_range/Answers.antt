-- `profile_ranges::check_range` meets its contract. EAD is checked against the area in which SAD is found. Assumes nothing.
use mathlib.Core.Path.{sym, ◌∙◌}
use Rattle.profile_ranges.proofs.check_range.Goals as goal

pub check_end-requires : goal.check_end-requires
check_end-requires c = record { base = c.in-Some.spot.base; found = sym c.locate.ensures.is ∙ c.in-Some.is }
