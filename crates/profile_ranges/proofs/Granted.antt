-- A range is granted exactly where it lies in an area that allows it, and what is left of a granted range is granted. Assumes nothing.
use mathlib.Core.Bool.{Bool, true, false, ◌&&◌, not}
use mathlib.Core.List.{List, ◌∷◌}
use mathlib.Core.Logic.{◌↔◌}
use mathlib.Core.Path.{◌≡◌, refl, sym, ap, subst, ◌∙◌}
use Prim.Native.Nat.{ℕ, ◌+◌, ◌%◌, ◌≤◌}
use native.Mathlib.Nat.{add-mod, zero-mod}
use native.Mathlib.Omega.{arith}
use lib.Dec.{leb, ltb, eqb}
use borrow.Author.Tests.{ltb-false, leb-false, eqb-true, eqb-false, not-false, le-ltb, lt-leb, eq-eqb, ne_eqb}
use Rattle.verdict.specs.declared.Reason.TheVariants.{Reversed, StartNowhere}
use Rattle.verdict.specs.Check.{◌gives◌, first_fault, NoneApplies, verdict_of}
use Rattle.verdict.proofs.FirstFault.{clear, grants, granted_clear}
use Rattle.profile.specs.declared.Area.{Area}
use Rattle.profile.specs.declared.Window.{Window}
use Rattle.profile.specs.declared.Spot.{Spot}
use Rattle.profile.specs.Areas.{inside}
use Rattle.profile.specs.Places.{place_of}
use Rattle.profile.proofs.Table.{inside_bounds}
use Rattle.profile.proofs.Places.{found_inside, area_has_place, inside_within}
use Rattle.profile_ranges.specs.declared.Purpose.{Purpose}
use Rattle.profile_ranges.specs.declared.Purpose.TheVariants.{Erase, Write, Read}
use Rattle.profile_ranges.specs.Ranges.{unit_checks, limited, window_checks, change_checks, purpose_checks, nowhere, area_of, end_checks, range_checks, Permitted}
use Rattle.std.specs.Prelude.{Option, Some, None, Ok}
use Rattle.profile_ranges.specs.InArea.{InArea, Changeable, Allowed, Lies}

-- that a check does not apply, before what is said of the later ones
infixr 4 ◌before◌
◌before◌ : {A B : Type 0} → A → B → A × B
a before b = (a, b)

-- a test that counts only where there is a limit
where_limited : (l t : Bool) → (l && t) ≡ false → l ≡ true → t ≡ false
where_limited true t e h = e
where_limited false t e h = let z : ◌≡◌ {A = ℕ} 0 1 = cc in absurd (omega arith)

if_limited : (l t : Bool) → (l ≡ true → t ≡ false) → (l && t) ≡ false
if_limited true t h = h refl
if_limited false t h = refl

pub somewhere : (r : Option Spot) → (r ≡ None → ⊥) → nowhere r ≡ false
somewhere (Some spot) h = refl
somewhere None h = absurd (h refl)

-- the checks of a change, and what a range that passes them is
module _ (a : Area) (w : Window) (unit s e : ℕ) where
  change_passed : NoneApplies (change_checks a w unit s e) → Changeable w a.koa unit s e
  unfolding NoneApplies change_checks unit_checks window_checks
  change_passed n =
      record {
        nonzero = eqb-false unit 0 n.0;
        first = eqb-true (s % unit) 0 (not-false (eqb (s % unit) 0) n.1.0);
        behind = eqb-true ((e + 1) % unit) 0 (not-false (eqb ((e + 1) % unit) 0) n.1.1.0);
        above = λ l. ltb-false s w.low (where_limited (limited w a.koa) (ltb s w.low) n.1.1.1.0 l);
        below = λ l. leb-false w.high e (where_limited (limited w a.koa) (leb w.high e) n.1.1.1.1.0 l);
      }

  change_passes : Changeable w a.koa unit s e → NoneApplies (change_checks a w unit s e)
  unfolding NoneApplies change_checks unit_checks window_checks
  change_passes c =
      ne_eqb unit 0 c.nonzero
      before ap not (eq-eqb (s % unit) 0 c.first)
      before ap not (eq-eqb ((e + 1) % unit) 0 c.behind)
      before if_limited (limited w a.koa) (ltb s w.low) (λ l. le-ltb s w.low (c.above l))
      before if_limited (limited w a.koa) (leb w.high e) (λ l. lt-leb w.high e (c.below l))
      before tt

purpose_passed : (purpose : Purpose) (a : Area) (w : Window) (s e : ℕ) → NoneApplies (purpose_checks purpose a w s e) → Allowed purpose w a s e
unfolding purpose_checks
purpose_passed Erase a w s e n = change_passed a w a.eau s e n
purpose_passed Write a w s e n = change_passed a w a.wau s e n
purpose_passed Read a w s e n = tt

purpose_passes : (purpose : Purpose) (a : Area) (w : Window) (s e : ℕ) → Allowed purpose w a s e → NoneApplies (purpose_checks purpose a w s e)
unfolding NoneApplies purpose_checks
purpose_passes Erase a w s e c = change_passes a w a.eau s e c
purpose_passes Write a w s e c = change_passes a w a.wau s e c
purpose_passes Read a w s e c = tt

module _ (areas : List Area) (w : Window) (purpose : Purpose) (s e : ℕ) where
  passed : (spot : Spot) → place_of areas s ≡ Some spot → Permitted areas w purpose s e
      → (s ≤ e) × (inside spot.area e ≡ true) × Allowed purpose w spot.area s e
  unfolding Permitted range_checks end_checks NoneApplies
  passed spot f p =
      let n : NoneApplies (range_checks areas w purpose s e) = clear (range_checks areas w purpose s e) p in
      let area : area_of (place_of areas s) ≡ spot.area = ap area_of f in
      let t : inside spot.area e ≡ true = ap (λ (a : Area). inside a e) (sym area) ∙ not-false (inside (area_of (place_of areas s)) e) n.1.1.1.0 in
      let own : NoneApplies (purpose_checks purpose spot.area w s e) = subst (λ (a : Area). NoneApplies (purpose_checks purpose a w s e)) area n.1.1.1.1 in
      (ltb-false e s n.0, t, purpose_passed purpose spot.area w s e own)

  -- a granted range lies in the area in which its start is found
  pub granted_in : (spot : Spot) → place_of areas s ≡ Some spot → Permitted areas w purpose s e → InArea areas s e spot
  granted_in spot f p =
      let g = passed spot f p in
      record {
        found = f;
        ordered = g.0;
        starts = (inside_bounds spot.area s (found_inside 0 areas s spot f)).0;
        ends = (inside_bounds spot.area e g.1).1;
      }

  -- and that area allows it
  pub granted_allowed : (spot : Spot) → place_of areas s ≡ Some spot → Permitted areas w purpose s e → Allowed purpose w spot.area s e
  granted_allowed spot f p = (passed spot f p).2

  passes : (spot : Spot) → InArea areas s e spot → Allowed purpose w spot.area s e → NoneApplies (range_checks areas w purpose s e)
  unfolding range_checks end_checks NoneApplies
  passes spot i c =
      let t : inside spot.area e ≡ true = inside_within spot.area e (omega arith) i.ends in
      let area : area_of (place_of areas s) ≡ spot.area = ap area_of i.found in
      le-ltb e s i.ordered
      before ap nowhere i.found
      before somewhere (place_of areas e) (area_has_place 0 areas s e spot i.found t)
      before ap not (ap (λ (a : Area). inside a e) area ∙ t)
      before subst (λ (a : Area). NoneApplies (purpose_checks purpose a w s e)) (sym area) (purpose_passes purpose spot.area w s e c)

  -- a range in an area that allows it is granted
  pub grants_in_lem : (spot : Spot) → InArea areas s e spot → Allowed purpose w spot.area s e → Permitted areas w purpose s e
  unfolding Permitted
  grants_in_lem spot i c = grants (range_checks areas w purpose s e) (passes spot i c)

  -- a granted range lies in an area that allows it
  pub in_area_lem : Permitted areas w purpose s e → Lies areas w purpose s e
  unfolding Permitted range_checks NoneApplies
  in_area_lem p = go (place_of areas s) refl (clear (range_checks areas w purpose s e) p).1.0
    where
      go : (r : Option Spot) → place_of areas s ≡ r → nowhere r ≡ false → Lies areas w purpose s e
      go (Some spot) f h = record { spot = spot; in_area = granted_in spot f p; allowed = granted_allowed spot f p }
      go None f h = let z : ◌≡◌ {A = ℕ} 0 1 = cc in absurd (omega arith)

  -- every address of a granted range has a place
  pub granted_placed : Permitted areas w purpose s e → (x : ℕ) → s ≤ x → x ≤ e → place_of areas x ≡ None → ⊥
  granted_placed p x from to =
      let l : Lies areas w purpose s e = in_area_lem p in
      let i : inside l.spot.area x ≡ true = inside_within l.spot.area x (omega (arith, l.in_area.starts)) (omega (arith, l.in_area.ends)) in
      area_has_place 0 areas s x l.spot l.in_area.found i

  -- so these are the granted ranges, no more and no fewer
  pub granted_exactly : Permitted areas w purpose s e ↔ Lies areas w purpose s e
  granted_exactly = (in_area_lem, λ l. grants_in_lem l.spot l.in_area l.allowed)

  -- the verdict tells which ranges are granted
  pub verdict_exactly : (verdict_of (first_fault (range_checks areas w purpose s e)) ≡ Ok tt) ↔ Permitted areas w purpose s e
  unfolding Permitted
  verdict_exactly = (granted_clear (first_fault (range_checks areas w purpose s e)), λ p. ap verdict_of p)

-- where the start is nowhere no area is looked at: the first fault is the same with any
pub start_area : (areas : List Area) (w : Window) (purpose : Purpose) (s e : ℕ) → place_of areas s ≡ None → (a : Area)
    → first_fault ((ltb e s gives Reversed) ∷ (nowhere (place_of areas s) gives StartNowhere) ∷ end_checks areas a w purpose s e)
    ≡ first_fault (range_checks areas w purpose s e)
unfolding range_checks first_fault
start_area areas w purpose s e f a = go (ltb e s) refl
  where
    go : (t : Bool) → ltb e s ≡ t
        → first_fault ((ltb e s gives Reversed) ∷ (nowhere (place_of areas s) gives StartNowhere) ∷ end_checks areas a w purpose s e)
        ≡ first_fault (range_checks areas w purpose s e)
    go true t = simp t
    go false t = simp (t, f)

-- what is left of a change once whole units of it are done
pub changeable_later : (w : Window) (koa unit s e n : ℕ) → n % unit ≡ 0 → Changeable w koa unit s e → Changeable w koa unit (s + n) e
changeable_later w koa unit s e n d c =
    record {
      nonzero = c.nonzero;
      first = rw (add-mod s n unit, c.first, d) (zero-mod unit);
      behind = c.behind;
      above = λ l. omega (arith, c.above l);
      below = c.below;
    }

-- what is left of a granted range, where all addresses of its area are found in it
module _ (areas : List Area) (w : Window) (s e n : ℕ) (spot : Spot) (f : place_of areas s ≡ Some spot)
    (same : (x : ℕ) → spot.area.sad ≤ x → x ≤ spot.area.ead → place_of areas x ≡ Some spot) (h : s + n ≤ e) where
  pub in_area_later : InArea areas s e spot → InArea areas (s + n) e spot
  in_area_later i =
      let low : spot.area.sad ≤ s + n = omega arith in
      record { found = same (s + n) low (omega arith); ordered = h; starts = low; ends = i.ends }

  pub split_write : n % spot.area.wau ≡ 0 → Permitted areas w Write s e → Permitted areas w Write (s + n) e
  split_write d p =
      let left = changeable_later w spot.area.koa spot.area.wau s e n d (granted_allowed areas w Write s e spot f p) in
      grants_in_lem areas w Write (s + n) e spot (in_area_later (granted_in areas w Write s e spot f p)) left

  pub split_read : Permitted areas w Read s e → Permitted areas w Read (s + n) e
  split_read p = grants_in_lem areas w Read (s + n) e spot (in_area_later (granted_in areas w Read s e spot f p)) tt
