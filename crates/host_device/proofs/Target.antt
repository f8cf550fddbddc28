-- What is known of a range that may be written: it lies in one area, in whole units that a packet holds. Assumes nothing.
use mathlib.Core.Bool.{Bool, true, false, not}
use mathlib.Core.List.{List, [], ◌∷◌}
use mathlib.Core.Path.{◌≡◌, refl, sym, ap, subst, ◌∙◌}
use Prim.Native.Nat.{ℕ, ◌+◌, ◌-◌, ◌%◌, ◌≤◌, ◌<◌}
use native.Mathlib.Omega.{arith}
use borrow.Author.Tests.{le-ltb, eq-eqb, ne_eqb}
use Rattle.verdict.specs.Check.{NoneApplies}
use Rattle.profile.specs.declared.Area.{Area}
use Rattle.profile.specs.declared.Profile.{Profile}
use Rattle.profile.specs.declared.Spot.{Spot}
use Rattle.profile.specs.declared.Window.{Window}
use Rattle.profile.specs.Areas.{areas_of, size_of, inside}
use Rattle.profile.specs.Places.{place_from, place_of, unit_at}
use Rattle.profile.proofs.Places.{whole_area}
use Rattle.profile_rules.specs.Rules.{Accepted}
use Rattle.profile_rules.specs.Sound.{SoundArea, Ascending}
use Rattle.profile_rules.proofs.Accepted.{sound}
use Rattle.profile_ranges.specs.declared.Purpose.TheVariants.{Write as ToWrite}
use Rattle.profile_ranges.specs.Ranges.{Permitted}
use Rattle.profile_ranges.specs.InArea.{Lies}
use Rattle.profile_ranges.proofs.Granted.{in_area_lem}
use Rattle.packet.proofs.Laws.{impossible}
use Rattle.device_steps.proofs.Going.{above}
use Rattle.host_plan.specs.Plan.{plan_checks}
use Rattle.std.specs.Prelude.{Some}
use Rattle.host_device.specs.Writing.{unit_for}

-- what every sound area has
module _ (Has : Area → Type 0) (has : (free : ℕ) (a : Area) → SoundArea free a → Has a) where
  -- an area has that was found in a table that is sound
  found_has : (free base : ℕ) (areas : List Area) (x : ℕ) (spot : Spot) → Ascending free areas → place_from base areas x ≡ Some spot → Has spot.area
  unfolding Ascending place_from
  found_has free base [] x spot s e = impossible (cc)
  found_has free base (a ∷ more) x spot s e = go (inside a x) refl (found_has (a.ead + 1) (base + size_of a) more x spot s.1)
    where
      go : (t : Bool) → inside a x ≡ t → (place_from (base + size_of a) more x ≡ Some spot → Has spot.area) → Has spot.area
      go true i later =
          let here : Some (record { area = a; base = base }) ≡ Some spot = rw i at e in
          let it : record { area = a; base = base } ≡ spot = cc in
          subst (λ (k : Spot). Has k.area) it (has free a s.0)
      go false i later = later (rw i at e)

-- the range s to e of a write, inclusive, and its unit
pub record Target (p : Profile) (s e : ℕ) : Type 0 where
  pub spot : Spot
  -- every address of the area is found in it
  pub same : (x : ℕ) → spot.area.sad ≤ x → x ≤ spot.area.ead → place_of (areas_of p) x ≡ Some spot
  pub low : spot.area.sad ≤ s
  pub order : s ≤ e
  pub high : e ≤ spot.area.ead
  pub top : spot.area.ead < 0xFFFFFFFF
  pub some : 1 ≤ unit_for p s
  pub short : unit_for p s ≤ 1024
  pub first : s % unit_for p s ≡ 0
  pub behind : (e + 1) % unit_for p s ≡ 0

-- of a range that is permitted
pub target : (p : Profile) → Accepted p → (w : Window) (s e : ℕ) → Permitted (areas_of p) w ToWrite s e → Target p s e
target p accepted w s e permitted =
    let ascend = (sound p accepted).areas in
    let l : Lies (areas_of p) w ToWrite s e = in_area_lem (areas_of p) w ToWrite s e permitted in
    let spot = l.spot in
    let found : place_of (areas_of p) s ≡ Some spot = l.in_area.found in
    let unit : spot.area.wau ≡ unit_for p s = sym (ap unit_at found) in
    let sizes : (spot.area.ead < 0xFFFFFFFF) × (spot.area.wau ≤ 1024) =
    found_has (λ (a : Area). (a.ead < 0xFFFFFFFF) × (a.wau ≤ 1024)) (λ free a h. (h.below_top, h.short_write)) 0 0 (areas_of p) s spot ascend
    found in
    let nonzero : spot.area.wau ≡ 0 → ⊥ = l.allowed.nonzero in
    record {
      spot = spot;
      same = whole_area 0 0 (areas_of p) s spot (above 0 (areas_of p) ascend) found;
      low = l.in_area.starts;
      order = l.in_area.ordered;
      high = l.in_area.ends;
      top = sizes.0;
      some = omega arith;
      short = omega (arith, sizes.1);
      first = ap (λ (u : ℕ). s % u) (sym unit) ∙ l.allowed.first;
      behind = ap (λ (u : ℕ). (e + 1) % u) (sym unit) ∙ l.allowed.behind;
    }

-- it can be planned
pub target_planned : (p : Profile) (s e count : ℕ) → Target p s e → count ≡ e + 1 - s → NoneApplies (plan_checks s e (unit_for p s) count)
unfolding plan_checks NoneApplies
target_planned p s e count t amount = (
  le-ltb e s t.order,
  (
    ne_eqb (unit_for p s) 0 (λ z. omega (arith, t.some)),
    (
      le-ltb 1024 (unit_for p s) t.short,
      (
        ap not (eq-eqb (s % unit_for p s) 0 t.first),
        (
          ap not (eq-eqb ((e + 1) % unit_for p s) 0 t.behind),
          (ap not (eq-eqb count (e + 1 - s) amount), tt),
        ),
      ),
    ),
  ),
)

-- the unit is that of every address of the range
pub target_unit : (p : Profile) (s e : ℕ) (t : Target p s e) (x : ℕ) → s ≤ x → x ≤ e → unit_at (place_of (areas_of p) x) ≡ unit_for p s
target_unit p s e t x from to =
    ap unit_at (t.same x (omega (arith, t.low)) (omega (arith, t.high)) ∙ sym (t.same s t.low (omega (arith, t.order, t.high))))
