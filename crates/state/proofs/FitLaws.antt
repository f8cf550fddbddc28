-- What the test of a range needs: the place of its next address tells whether the range fits. Assumes nothing.
use mathlib.Core.Bool.{Bool}
use mathlib.Core.List.{List}
use mathlib.Core.Path.{◌≡◌}
use Prim.Native.Nat.{◌+◌, ◌-◌, ◌≤◌}
use native.Mathlib.Omega.{arith}
use borrow.Author.Tests.{le-leb}
use Rattle.profile.specs.declared.Area.{Area}
use Rattle.profile.specs.declared.Window.{Window}
use Rattle.profile.specs.Places.{place_of}
use Rattle.profile_ranges.specs.declared.Purpose.{Purpose}
use Rattle.profile_ranges.proofs.OneSearch.{granted_at, passes_exactly}
use Rattle.state.specs.declared.Range.{Range}
use Rattle.std.specs.Prelude.{Option}
use Rattle.profile.specs.declared.Spot.{Spot}
use Rattle.state.specs.Fits.{range_fits}

-- of a range of at least one byte, of addresses of 32 bits, the place alone tells whether it fits
module _ (areas : List Area) (w : Window) (purpose : Purpose) (r : Range) (some_left : 1 ≤ r.left) (in_reach : r.next + r.left ≤ 0x100000000) where
  pub by_place : (p : Option Spot) → place_of areas r.next ≡ p → (t : Bool) → t ≡ granted_at p w purpose r.next (r.next + r.left - 1)
      → t ≡ range_fits areas w purpose r
  unfolding range_fits
  by_place p found t told =
      let ordered : r.next ≤ r.next + r.left - 1 = omega arith in
      simp (le-leb _ _ some_left, le-leb _ _ in_reach, passes_exactly areas w purpose r.next (r.next + r.left - 1), le-leb _ _ ordered, found) told
