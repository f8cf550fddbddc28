-- A granted range fits, and so does what is left of it as a write or a read goes on. Assumes nothing.
use mathlib.Core.Bool.{Bool, true, false, ◌&&◌, cond}
use mathlib.Core.List.{List, [], ◌∷◌}
use Rattle.std.specs.Prelude.{Option, None, Some}
use mathlib.Core.Path.{◌≡◌, refl, sym, subst}
use Prim.Native.Nat.{ℕ, ◌+◌, ◌-◌, ◌%◌, ◌≤◌, ◌<◌}
use native.Mathlib.Omega.{arith}
use lib.Dec.{leb, eqb}
use borrow.Author.Tests.{leb-true, le-leb, eqb-false}
use Rattle.verdict.specs.declared.Reason.{Reason}
use Rattle.verdict.specs.Check.{first_fault, passes}
use Rattle.profile.specs.declared.Area.{Area}
use Rattle.profile.specs.declared.Spot.{Spot}
use Rattle.profile.specs.declared.Window.{Window}
use Rattle.profile.specs.Places.{place_of, unit_at}
use Rattle.profile.proofs.Places.{Above, whole_area}
use Rattle.profile_rules.specs.Sound.{Ascending}
use Rattle.profile_rules.proofs.Accepted.{below_top}
use Rattle.profile_ranges.specs.declared.Purpose.{Purpose}
use Rattle.profile_ranges.specs.declared.Purpose.TheVariants.{Write as ToWrite, Read as ToRead}
use Rattle.profile_ranges.specs.Ranges.{range_checks, Permitted}
use Rattle.profile_ranges.specs.InArea.{InArea, Lies}
use Rattle.profile_ranges.proofs.Granted.{in_area_lem, split_write, split_read}
use Rattle.packet.proofs.Laws.{impossible, both}
use Rattle.state.specs.declared.Range.{Range}
use Rattle.state.specs.declared.Stage.{Stage}
use Rattle.state.specs.declared.Stage.TheVariants.{Command, Writing, Reading}
use Rattle.state.specs.Fits.{range_fits, stage_fits}
use Rattle.check_transfer.specs.Transfer.{unit_before}
use Rattle.check_transfer.proofs.Boundary.{same_boundary}
use Rattle.answer_command.specs.Grants.{span_of}
use Rattle.answer_transfer.specs.Transfers.{rest_of, after}

-- areas that are sound ascend
pub above : (free : ℕ) (areas : List Area) → Ascending free areas → Above free areas
unfolding Ascending Above
above free [] s = tt
above free (a ∷ more) s = (s.0.above, s.0.in_order, above (a.ead + 1) more s.1)

-- a range that fits, by its parts
pub record Going (areas : List Area) (w : Window) (purpose : Purpose) (r : Range) : Type 0 where
  pub some_left : 1 ≤ r.left
  pub in_reach : r.next + r.left ≤ 0x100000000
  pub permits : Permitted areas w purpose r.next (r.next + r.left - 1)

none_passes : (f : Option Reason) → passes f ≡ true → f ≡ None
none_passes None e = refl
none_passes (Some reason) e = impossible (cc)

module _ (areas : List Area) (w : Window) (purpose : Purpose) (r : Range) where
  pub going : range_fits areas w purpose r ≡ true → Going areas w purpose r
  unfolding range_fits Permitted
  going e =
      let told : Bool = passes (first_fault (range_checks areas w purpose r.next (r.next + r.left - 1))) in
      let t = both (leb 1 r.left) (leb (r.next + r.left) 0x100000000 && told) e in
      let u = both (leb (r.next + r.left) 0x100000000) told t.1 in
      record {
        some_left = leb-true 1 r.left t.0;
        in_reach = leb-true (r.next + r.left) 0x100000000 u.0;
        permits = none_passes (first_fault (range_checks areas w purpose r.next (r.next + r.left - 1))) u.1;
      }

  pub going_fits : Going areas w purpose r → range_fits areas w purpose r ≡ true
  unfolding range_fits Permitted
  going_fits g = simp (le-leb _ _ g.some_left, le-leb _ _ g.in_reach, g.permits)

-- its last address stays the same as the range goes on
same_end : (s left n : ℕ) → n < left → s + n + (left - n) - 1 ≡ s + left - 1
same_end s left n h = omega arith

-- a transfer goes on, or its end leads to command stage
after_fits : (areas : List Area) (w : Window) (turn : Range → Stage) (r : Range) (n : ℕ)
    → (n ≤ r.left) → (n < r.left → stage_fits areas w (turn (rest_of r n)) ≡ true)
    → stage_fits areas w (after turn r n) ≡ true
unfolding after stage_fits
after_fits areas w turn r n most more = go (eqb r.left n) refl
  where
    go : (t : Bool) → eqb r.left n ≡ t → stage_fits areas w (cond t Command (turn (rest_of r n))) ≡ true
    go true e = refl
    go false e = more (omega (arith, eqb-false r.left n e))

module _ (areas : List Area) (sound : Ascending 0 areas) (w : Window) where
  -- the range of a granted command
  pub spanned : (purpose : Purpose) (s e : ℕ) → Permitted areas w purpose s e → Going areas w purpose (span_of s e)
  spanned purpose s e p =
      let l : Lies areas w purpose s e = in_area_lem areas w purpose s e p in
      let i : InArea areas s e l.spot = l.in_area in
      let top : l.spot.area.ead < 0xFFFFFFFF = below_top 0 0 areas s l.spot sound i.found in
      let end : s + (e + 1 - s) - 1 ≡ e = omega (arith, i.ordered) in
      record {
        some_left = omega (arith, i.ordered);
        in_reach = omega (arith, i.ordered, i.ends);
        permits = subst (Permitted areas w purpose s) (sym end) p;
      }

  module _ (r : Range) (n : ℕ) where
    abbrev end : ℕ
    end = r.next + r.left - 1

    -- it lies in one area, whose addresses are all found there
    lies : (purpose : Purpose) → Going areas w purpose r → Lies areas w purpose r.next end
    lies purpose g = in_area_lem areas w purpose r.next end g.permits

    same : (spot : Spot) → place_of areas r.next ≡ Some spot → (x : ℕ) → spot.area.sad ≤ x → x ≤ spot.area.ead → place_of areas x ≡ Some spot
    same spot f = whole_area 0 0 areas r.next spot (above 0 areas sound) f

    onward : (purpose : Purpose) → Going areas w purpose r → n < r.left → Permitted areas w purpose (r.next + n) end
        → range_fits areas w purpose (rest_of r n) ≡ true
    onward purpose g h p =
        going_fits areas w purpose (rest_of r n)
        (record {
          some_left = omega arith;
          in_reach = omega arith;
          permits = subst (Permitted areas w purpose (r.next + n)) (sym (same_end r.next r.left n h)) p;
        })

    pub read_after : Going areas w ToRead r → n ≤ r.left → stage_fits areas w (after Reading r n) ≡ true
    unfolding stage_fits
    read_after g most =
        let l : Lies areas w ToRead r.next end = lies ToRead g in
        let f : place_of areas r.next ≡ Some l.spot = l.in_area.found in
        after_fits areas w Reading r n most
        (λ h. onward ToRead g h (split_read areas w r.next end n l.spot f (same l.spot f) (omega arith) g.permits))

    -- up to a boundary of the unit of the area in which the last of them stands
    pub write_after : Going areas w ToWrite r → (n ≡ 0 → ⊥) → (r.next + n) % unit_before areas (r.next + n) ≡ 0 → n ≤ r.left
        → stage_fits areas w (after Writing r n) ≡ true
    unfolding stage_fits
    write_after g any d most =
        let l : Lies areas w ToWrite r.next end = lies ToWrite g in
        let f : place_of areas r.next ≡ Some l.spot = l.in_area.found in
        let units : n % unit_at (place_of areas r.next) ≡ 0 =
        (same_boundary areas (above 0 areas sound) w r.next end n g.permits (omega arith) (omega arith)).0 d in
        after_fits areas w Writing r n most
        (λ h. onward ToWrite g h (split_write areas w r.next end n l.spot f (same l.spot f) (omega arith) (rw f at units) g.permits))
