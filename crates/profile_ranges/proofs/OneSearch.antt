-- One search decides a range: where the area of SAD holds EAD, a search for EAD finds a place too. Assumes nothing.
use mathlib.Core.Bool.{Bool, true, false, ◌&&◌}
use mathlib.Core.List.{List}
use mathlib.Core.Path.{◌≡◌, refl, sym, ap, ◌∙◌}
use Prim.Native.Nat.{ℕ}
use lib.Dec.{leb, ltb}
use borrow.Author.Tests.{ltb-true, ltb-false, le-leb, lt-leb}
use Rattle.verdict.specs.declared.Reason.{Reason}
use Rattle.verdict.specs.Check.{first_fault, verdict_of, passes, Verdict}
use Rattle.verdict.proofs.FirstFault.{granted_clear, refused_fault}
use Rattle.profile.specs.declared.Area.{Area}
use Rattle.profile.specs.declared.Window.{Window}
use Rattle.profile.specs.Areas.{inside}
use Rattle.profile.specs.Places.{place_of}
use Rattle.profile.proofs.Places.{area_has_place}
use Rattle.profile_ranges.specs.declared.Purpose.{Purpose}
use Rattle.profile_ranges.specs.Ranges.{purpose_checks, within_of, end_checks, range_checks}
use Rattle.profile_ranges.specs.InArea.{StartsIn}
use Rattle.std.specs.Prelude.{Option, Some, None, Ok, Err}
use Rattle.profile.specs.declared.Spot.{Spot}
use Rattle.profile_ranges.proofs.Granted.{somewhere}

-- what the place of SAD says of a range that is not reversed
abbrev pub granted_at : Option Spot → Window → Purpose → ℕ → ℕ → Bool
granted_at (Some spot) w purpose s e = within_of spot.area w purpose s e
granted_at None w purpose s e = false

-- where the area of SAD holds EAD, the checks of the purpose tell
module _ (a : Area) (w : Window) (purpose : Purpose) (s e : ℕ) (held : inside a e ≡ true) where
  by_purpose : passes (first_fault (purpose_checks purpose a w s e)) ≡ within_of a w purpose s e
  unfolding within_of
  by_purpose = simp held

  module _ (v : Verdict) (is-verdict : v ≡ verdict_of (first_fault (purpose_checks purpose a w s e))) where
    pub granted_within : v ≡ Ok tt → true ≡ within_of a w purpose s e
    granted_within g = sym (ap passes (granted_clear (first_fault (purpose_checks purpose a w s e)) (sym is-verdict ∙ g))) ∙ by_purpose

    pub refused_within : (reason : Reason) → v ≡ Err reason → false ≡ within_of a w purpose s e
    refused_within reason g = sym (ap passes (refused_fault (first_fault (purpose_checks purpose a w s e)) reason (sym is-verdict ∙ g))) ∙ by_purpose

-- a range that starts in area a
module _ (areas : List Area) (a : Area) (w : Window) (purpose : Purpose) (s e : ℕ) (starts : StartsIn areas s a) where
  -- where a holds EAD, only the checks of the purpose are left
  end_held : inside a e ≡ true → first_fault (end_checks areas a w purpose s e) ≡ first_fault (purpose_checks purpose a w s e)
  unfolding end_checks first_fault
  end_held t = simp (somewhere (place_of areas e) (area_has_place 0 areas s e (record { area = a; base = starts.base }) starts.found t), t)

  pub verdict_held : inside a e ≡ true → (v : Verdict) → v ≡ verdict_of (first_fault (purpose_checks purpose a w s e))
      → v ≡ verdict_of (first_fault (end_checks areas a w purpose s e))
  verdict_held t v is-verdict = is-verdict ∙ sym (ap verdict_of (end_held t))

  passes_end : passes (first_fault (end_checks areas a w purpose s e)) ≡ within_of a w purpose s e
  unfolding within_of end_checks first_fault
  passes_end = go (inside a e) refl (place_of areas e) refl
    where
      go : (t : Bool) → inside a e ≡ t → (p : Option Spot) → place_of areas e ≡ p → passes (first_fault (end_checks areas a w purpose s e)) ≡ within_of a w purpose s e
      go true t p f = ap passes (end_held t) ∙ by_purpose a w purpose s e t
      go false t (Some spot) f = simp (t, f)
      go false t None f = simp (t, f)

-- a range is granted exactly where it is not reversed and the place of its start says so
pub passes_exactly : (areas : List Area) (w : Window) (purpose : Purpose) (s e : ℕ)
    → passes (first_fault (range_checks areas w purpose s e)) ≡ (leb s e && granted_at (place_of areas s) w purpose s e)
unfolding range_checks first_fault
passes_exactly areas w purpose s e = go (ltb e s) refl (place_of areas s) refl
  where
    go : (t : Bool) → ltb e s ≡ t → (p : Option Spot) → place_of areas s ≡ p
        → passes (first_fault (range_checks areas w purpose s e)) ≡ (leb s e && granted_at (place_of areas s) w purpose s e)
    go true t p f = simp (t, lt-leb s e (ltb-true e s t))
    go false t None f = simp (t, f, le-leb s e (ltb-false e s t))
    go false t (Some spot) f =
        simp (t, f, le-leb s e (ltb-false e s t)) (passes_end areas spot.area w purpose s e (record { base = spot.base; found = f }))
