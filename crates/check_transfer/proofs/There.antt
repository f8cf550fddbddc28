-- Every part of a range that is permitted is fetched whole from an image of the areas' length, and a request for the next packet has its byte. Assumes nothing.
use mathlib.Core.Bool.{Bool, true, false}
use mathlib.Core.List.{List}
use mathlib.Core.Path.{◌≡◌, refl}
use Prim.Native.Nat.{ℕ, ◌+◌, ◌≤◌}
use native.Mathlib.Omega.{arith}
use lib.ListN.{length, get_or}
use lib.Dec.{eqb}
use borrow.Author.Tests.{eqb-true, eqb-false}
use Rattle.numbers.proofs.There.{entry_there}
use Rattle.profile.specs.declared.Area.{Area}
use Rattle.profile.specs.declared.Window.{Window}
use Rattle.profile.specs.Areas.{total_of}
use Rattle.profile.specs.Places.{place_of}
use Rattle.profile.proofs.Places.{Above, whole_area}
use Rattle.profile_ranges.specs.declared.Purpose.{Purpose}
use Rattle.profile_ranges.specs.InArea.{Lies}
use Rattle.profile_ranges.specs.Ranges.{Permitted}
use Rattle.profile_ranges.proofs.Granted.{in_area_lem}
use Rattle.packet_fields.specs.Fields.{info_count}
use Rattle.flash.specs.Effects.{fetched}
use Rattle.std.specs.Prelude.{Some}
use Rattle.flash.proofs.ByAddress.{fetched_most, fetched_whole}

-- n bytes from address x on, of the range s to e
pub part_whole : (areas : List Area) → Above 0 areas → (w : Window) (purpose : Purpose) (s e : ℕ) → Permitted areas w purpose s e
    → (image : List ℕ) → length image ≡ total_of areas → (x n : ℕ) → s ≤ x → x + n ≤ e + 1 → length (fetched areas x n image) ≡ n
part_whole areas ascend w purpose s e permits image whole x n from to = by (eqb n 0) refl
  where
    by : (t : Bool) → eqb n 0 ≡ t → length (fetched areas x n image) ≡ n
    by true z = omega (arith, eqb-true n 0 z, fetched_most areas x n image)
    by false z =
        let some : n ≡ 0 → ⊥ = eqb-false n 0 z in
        let l : Lies areas w purpose s e = in_area_lem areas w purpose s e permits in
        let low : l.spot.area.sad ≤ x = omega (arith, l.in_area.starts) in
        let high : x ≤ l.spot.area.ead = omega (arith, l.in_area.ends) in
        let found : place_of areas x ≡ Some l.spot = whole_area 0 0 areas s l.spot ascend l.in_area.found x low high in
        fetched_whole areas x n image l.spot found whole (omega (arith, l.in_area.ends))

-- the byte that asks for the next packet is looked at only where there is one byte of information
pub next_there : (q : List ℕ) → info_count q ≡ 1 → (d : ℕ) → get_or q 4 d ≡ get_or q 4 0
next_there q h d = entry_there q 4 d 0 (omega arith)
