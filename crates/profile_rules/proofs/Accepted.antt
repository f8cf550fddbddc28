-- A profile is accepted exactly when it is sound, and then no address lies in two of its areas. Assumes nothing.
use mathlib.Core.Bool.{Bool, true, false, not}
use mathlib.Core.List.{List, [], ◌∷◌, ◌++◌}
use Rattle.std.specs.Prelude.{None, Some, Ok}
use mathlib.Core.Path.{◌≡◌, refl, ap, subst, ◌∙◌}
use Prim.Native.Nat.{ℕ, zero, suc, ◌+◌, ◌≤◌, ◌<◌}
use native.Mathlib.Omega.{arith}
use lib.ListN.{length, get_or}
use borrow.Author.Tests.{ltb-false, leb-false, eqb-true, not-false, le-ltb, lt-leb, eq-eqb}
use Rattle.verdict.specs.Check.{first_fault, NoneApplies}
use Rattle.verdict.proofs.FirstFault.{clear, grants, granted_clear, clear_left, clear_right, fault_right}
use Rattle.profile.specs.declared.Area.{Area}
use Rattle.profile.specs.declared.Profile.{Profile}
use Rattle.profile.specs.declared.Spot.{Spot}
use Rattle.profile.specs.Areas.{areas_of, no_area, size_of, inside}
use Rattle.profile.specs.Places.{place_from}
use Rattle.profile.proofs.Table.{inside_bounds}
use Rattle.profile_rules.specs.Rules.{acceptance_of, head_checks, area_checks, table_checks, tail_checks, profile_checks, Accepted}
use Rattle.profile_rules.specs.Sound.{SoundArea, Ascending, Sound}

-- the answer says whether the profile is accepted
module _ (p : Profile) where
  pub judged : acceptance_of (first_fault (profile_checks p)) ≡ Ok tt → Accepted p
  unfolding Accepted
  judged e = granted_clear (first_fault (profile_checks p)) e

  pub acceptable : Accepted p → acceptance_of (first_fault (profile_checks p)) ≡ Ok tt
  unfolding Accepted
  acceptable e = ap acceptance_of e

-- one area: none of its checks applies exactly where it is sound
module _ (i free : ℕ) (a : Area) where
  area_sound : first_fault (area_checks i free a) ≡ None → SoundArea free a
  unfolding area_checks NoneApplies
  area_sound e =
      let n = clear (area_checks i free a) e in
      record {
        known_kind = ltb-false _ _ n.0;
        in_order = ltb-false _ _ n.1.0;
        below_top = leb-false _ _ n.1.1.0;
        above = ltb-false _ _ n.1.1.1.0;
        erase_unit = not-false _ n.1.1.1.1.0;
        write_unit = not-false _ n.1.1.1.1.1.0;
        short_write = ltb-false _ _ n.1.1.1.1.1.1.0;
      }

  area_clear : SoundArea free a → first_fault (area_checks i free a) ≡ None
  unfolding area_checks NoneApplies
  area_clear s =
      grants (area_checks i free a) (
        le-ltb _ _ s.known_kind,
        (
          le-ltb _ _ s.in_order,
          (
            lt-leb _ _ s.below_top,
            (
              le-ltb _ _ s.above,
              (ap not s.erase_unit, (ap not s.write_unit, (le-ltb _ _ s.short_write, tt))),
            ),
          ),
        ),
      )

-- the table
table_sound : (i free : ℕ) (areas : List Area) → first_fault (table_checks i free areas) ≡ None → Ascending free areas
unfolding table_checks Ascending
table_sound i free [] e = tt
table_sound i free (a ∷ more) e =
    let later = table_checks (i + 1) (a.ead + 1) more in
    (area_sound i free a (clear_left (area_checks i free a) later e), table_sound (i + 1) (a.ead + 1) more (clear_right (area_checks i free a) later e))

table_clear : (i free : ℕ) (areas : List Area) → Ascending free areas → first_fault (table_checks i free areas) ≡ None
unfolding table_checks Ascending first_fault
table_clear i free [] s = refl
table_clear i free (a ∷ more) s =
    fault_right (area_checks i free a) (table_checks (i + 1) (a.ead + 1) more) (area_clear i free a s.0) ∙ table_clear (i + 1) (a.ead + 1) more s.1

-- the whole profile
pub sound : (p : Profile) → Accepted p → Sound p
unfolding Accepted profile_checks head_checks tail_checks NoneApplies
sound p e =
    let table = table_checks 0 0 (areas_of p) in
    let rest = clear_right (head_checks p) (table ++ tail_checks p) e in
    let h = clear (head_checks p) (clear_left (head_checks p) (table ++ tail_checks p) e) in
    let t = clear (tail_checks p) (clear_right table (tail_checks p) rest) in
    record {
      some_area = ltb-false _ _ h.0;
      at_most_eight = ltb-false _ _ h.1.0;
      has_clock = ltb-false _ _ h.1.1.0;
      has_top_rate = ltb-false _ _ h.1.1.1.0;
      areas = table_sound 0 0 (areas_of p) (clear_left table (tail_checks p) rest);
      one_config = eqb-true _ _ (not-false _ t.0);
      no_small_config = eqb-true _ _ (not-false _ t.1.0);
      fits_image = ltb-false _ _ t.1.1.0;
      window_in_order = ltb-false _ _ t.1.1.1.0;
    }

pub accepted : (p : Profile) → Sound p → Accepted p
unfolding Accepted profile_checks head_checks tail_checks NoneApplies
accepted p s =
    let table = table_checks 0 0 (areas_of p) in
    let head = grants (head_checks p) (le-ltb _ _ s.some_area, (le-ltb _ _ s.at_most_eight, (le-ltb _ _ s.has_clock, (le-ltb _ _ s.has_top_rate, tt)))) in
    let tail = grants (tail_checks p) (ap not (eq-eqb _ _ s.one_config), (ap not (eq-eqb _ _ s.no_small_config), (le-ltb _ _ s.fits_image, (le-ltb _ _ s.window_in_order, tt)))) in
    fault_right (head_checks p) (table ++ tail_checks p) head
    ∙ fault_right table (tail_checks p) (table_clear 0 0 (areas_of p) s.areas)
    ∙ tail

-- every area of an ascending list starts at the first free address or above it
starts_above : (free : ℕ) (areas : List Area) → Ascending free areas → (k : ℕ) → k < length areas → free ≤ (get_or areas k no_area).sad
unfolding Ascending
starts_above free [] s k h = absurd (omega arith)
starts_above free (a ∷ more) s zero h = s.0.above
starts_above free (a ∷ more) s (suc k) h =
    let later = starts_above (a.ead + 1) more s.1 k (omega arith) in
    omega (arith, s.0.above, s.0.in_order)

outside : (a : Area) (x : ℕ) → x < a.sad → inside a x ≡ false
unfolding inside
outside a x h = simp (lt-leb a.sad x h)

-- an address in an area is in no later one
pub apart : (free : ℕ) (a : Area) (more : List Area) → Ascending free (a ∷ more) → (x k : ℕ) → k < length more → inside a x ≡ true → inside (get_or more k no_area) x ≡ false
unfolding Ascending
apart free a more s x k h t =
    let later = starts_above (a.ead + 1) more s.1 k h in
    outside (get_or more k no_area) x (omega (arith, (inside_bounds a x t).1))

-- so it is in one area at most
pub one_area : (free : ℕ) (areas : List Area) → Ascending free areas → (x j k : ℕ) → j < length areas → k < length areas
    → inside (get_or areas j no_area) x ≡ true → inside (get_or areas k no_area) x ≡ true → j ≡ k
unfolding Ascending
one_area free [] s x j k hj hk t u = absurd (omega arith)
one_area free (a ∷ more) s x zero zero hj hk t u = refl
one_area free (a ∷ more) s x zero (suc k) hj hk t u =
    let f = apart free a more s x k (omega arith) t in
    let z : ◌≡◌ {A = ℕ} 0 1 = cc in absurd (omega arith)
one_area free (a ∷ more) s x (suc j) zero hj hk t u =
    let f = apart free a more s x j (omega arith) u in
    let z : ◌≡◌ {A = ℕ} 0 1 = cc in absurd (omega arith)
one_area free (a ∷ more) s x (suc j) (suc k) hj hk t u = ap suc (one_area (a.ead + 1) more s.1 x j k (omega arith) (omega arith) t u)

-- an area of the table that was found ends below FFFFFFFFh
pub below_top : (free base : ℕ) (areas : List Area) (x : ℕ) (spot : Spot) → Ascending free areas → place_from base areas x ≡ Some spot → spot.area.ead < 0xFFFFFFFF
unfolding Ascending place_from
below_top free base [] x spot s e = let z : ◌≡◌ {A = ℕ} 0 1 = cc in absurd (omega arith)
below_top free base (a ∷ more) x spot s e = go (inside a x) refl (below_top (a.ead + 1) (base + size_of a) more x spot s.1)
  where
    go : (t : Bool) → inside a x ≡ t → (place_from (base + size_of a) more x ≡ Some spot → spot.area.ead < 0xFFFFFFFF) → spot.area.ead < 0xFFFFFFFF
    go true i later =
        let here : Some (record { area = a; base = base }) ≡ Some spot = rw i at e in
        let it : record { area = a; base = base } ≡ spot = cc in
        subst (λ (k : Spot). k.area.ead < 0xFFFFFFFF) it s.0.below_top
    go false i later = later (rw i at e)
