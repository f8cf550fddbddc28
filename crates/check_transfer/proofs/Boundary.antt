-- Within one area a packet's end lies on a unit's boundary exactly where the packet is made of whole units: the rule at the packet's end is the one on its
-- length. Assumes nothing.
use mathlib.Core.List.{List}
use mathlib.Core.Logic.{◌↔◌}
use mathlib.Core.Path.{◌≡◌, sym, ap, ◌∙◌}
use Prim.Native.Nat.{ℕ, ◌+◌, ◌-◌, ◌%◌, ◌≤◌}
use native.Mathlib.Nat.{zero-add, mod-add-mod}
use native.Mathlib.Omega.{arith}
use Rattle.profile.specs.declared.Area.{Area}
use Rattle.profile.specs.declared.Window.{Window}
use Rattle.profile.specs.Places.{place_of, unit_at}
use Rattle.profile.proofs.Places.{Above, whole_area}
use Rattle.profile_ranges.specs.declared.Purpose.TheVariants.{Write}
use Rattle.profile_ranges.specs.InArea.{Lies}
use Rattle.profile_ranges.specs.Ranges.{Permitted}
use Rattle.profile_ranges.proofs.Granted.{in_area_lem}
use Rattle.std.specs.Prelude.{Option, Some}
use Rattle.profile.specs.declared.Spot.{Spot}
use Rattle.check_transfer.specs.Transfer.{unit_before}

-- n bytes at the start of a range that may be written
module _ (areas : List Area) (ascend : Above 0 areas) (w : Window) (s e n : ℕ) (permits : Permitted areas w Write s e) (some : 1 ≤ n) (most : s + n ≤ e + 1) where
  lies : Lies areas w Write s e
  lies = in_area_lem areas w Write s e permits

  pub same_unit : unit_before areas (s + n) ≡ unit_at (place_of areas s)
  same_unit =
      let i = lies.in_area in
      let last : place_of areas (s + n - 1) ≡ Some lies.spot = whole_area 0 0 areas s lies.spot ascend i.found (s + n - 1) (omega (arith, i.starts)) (omega (arith, i.ends)) in
      ap unit_at (last ∙ sym i.found)

  -- a write is permitted only where there is a unit: no remainder by 0 is taken, and the blank search takes no 0 for 1
  pub unit_there : 1 ≤ unit_before areas (s + n)
  unit_there =
      let some : unit_at (place_of areas s) ≡ 0 → ⊥ = λ z. lies.allowed.nonzero (ap unit_at (sym lies.in_area.found) ∙ z) in
      omega (arith, same_unit)

  aligned : s % unit_at (place_of areas s) ≡ 0
  aligned = ap (λ (p : Option Spot). s % unit_at p) lies.in_area.found ∙ lies.allowed.first

  rest : (s + n) % unit_at (place_of areas s) ≡ n % unit_at (place_of areas s)
  rest =
      let u : ℕ = unit_at (place_of areas s) in
      sym (mod-add-mod s u n) ∙ ap (λ (k : ℕ). (k + n) % u) aligned ∙ ap (λ (k : ℕ). k % u) (zero-add n)

  pub same_boundary : ((s + n) % unit_before areas (s + n) ≡ 0) ↔ (n % unit_at (place_of areas s) ≡ 0)
  same_boundary =
      let whole : (s + n) % unit_before areas (s + n) ≡ n % unit_at (place_of areas s) = ap (λ (u : ℕ). (s + n) % u) same_unit ∙ rest in
      (λ e. sym whole ∙ e, λ e. whole ∙ e)
