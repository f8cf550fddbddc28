-- What a record that is read is; where its part lies; that records are read one behind the other, and where and why reading stops.
-- Assumes nothing.
use mathlib.Core.Bool.{Bool, true, false, cond}
use mathlib.Core.List.{List, [], ◌∷◌}
use mathlib.Core.Logic.{◌⊎◌, inl, inr}
use Rattle.std.specs.Prelude.{Option, None, Some}
use mathlib.Core.Path.{◌≡◌, refl, sym, ap, subst, ◌∙◌}
use Prim.Native.Nat.{ℕ, zero, suc, ◌-◌, ◌≤◌, ◌<◌}
use native.Mathlib.Omega.{arith}
use lib.ListN.{length}
use lib.Dec.{eqb}
use borrow.Author.Tests.{leb-true, eqb-true, not-false}
use denote.Enum.Declared.{tag_of}
use Rattle.numbers.specs.Bytes.{field}
use Rattle.numbers.specs.Same.{same}
use Rattle.verdict.specs.Check.{first_fault, NoneApplies}
use Rattle.verdict.proofs.FirstFault.{clear}
use Rattle.recording.specs.declared.Direction.{Direction}
use Rattle.recording.specs.declared.Fault.{Fault}
use Rattle.recording.specs.declared.Part.{Part}
use Rattle.recording.specs.declared.Found.{Found}
use Rattle.recording.specs.declared.Found.TheVariants.{Is, End, Refused}
use Rattle.recording.specs.declared.Ended.TheVariants.{Not, Whole, By}
use Rattle.recording.specs.Format.{mark, directed_of, length_allowed, is_known, Record}
use Rattle.recording.specs.Recording.{direction_at, count_at, part_at, length_checks, read_checks, found_by, found_at, bytes_in, record_by, continued, records_within, records_from, stopped, stop_within, stop_from, ended_by, extent_at, extent_of, LiesBehind, Inside}
use Rattle.recording.specs.contracts.Found.{the_type}
use Rattle.recording.proofs.Laws.{found_end}

-- a record at a place to which no check applies
pub record Checked (s : List ℕ) (at : ℕ) : Type 0 where
  pub marked : same (field 2 at s) mark ≡ true
  pub known : is_known (directed_of (direction_at s at)) ≡ true
  pub allowed : length_allowed (direction_at s at) (count_at s at) ≡ true
  pub fits : (part_at s at).to ≤ length s

pub checked : (s : List ℕ) (at : ℕ) → first_fault (read_checks s at) ≡ None → Checked s at
unfolding NoneApplies read_checks length_checks
checked s at e =
    let n = clear (read_checks s at) e in
    record {
      marked = not-false _ n.1.0;
      known = not-false _ n.1.1.1.0;
      allowed = not-false _ n.1.1.1.1.1.0;
      fits = leb-true _ _ (not-false _ n.1.1.1.1.1.1.0);
    }

-- what is found lies behind its place, and the end is at the end
abbrev pub Lies : ℕ → ℕ → Found → Type 0
Lies at n (Is direction part) = LiesBehind at n part
Lies at n End = at ≡ n
Lies at n (Refused fault) = Unit {0}

pub lies : (s : List ℕ) (at : ℕ) → Lies at (length s) (found_at s at)
unfolding found_at
lies s at = by (eqb at (length s)) refl
  where
    found : (f : Option Fault) (direction : Option Direction) → (f ≡ None → (part_at s at).to ≤ length s) → Lies at (length s) (found_by f direction (part_at s at))
    found (Some fault) direction h = tt
    found None (Some d) h = record { head = refl; order = omega arith; fits = h refl }
    found None None h = tt

    by : (t : Bool) → eqb at (length s) ≡ t
        → Lies at (length s) (cond t End (found_by (first_fault (read_checks s at)) (directed_of (direction_at s at)) (part_at s at)))
    by true e = eqb-true at (length s) e
    by false e = found (first_fault (read_checks s at)) (directed_of (direction_at s at)) (λ h. (checked s at h).fits)

-- what was found at a place lies behind it, inside the recording
module _ (s : List ℕ) (at : ℕ) {found : Found} (e : found ≡ found_at s at) where
  pub lie : Lies at (length s) found
  lie = subst (Lies at (length s)) (sym e) (lies s at)

  pub inside : Inside (length s) found
  inside = inside_in found lie
    where
      inside_in : (f : Found) → Lies at (length s) f → Inside (length s) f
      inside_in (Is direction part) l = (l.order, l.fits)
      inside_in End l = tt
      inside_in (Refused fault) l = tt

pub found_lies : (s : List ℕ) (at : ℕ) (direction : Direction) (part : Part) → found_at s at ≡ Is direction part → LiesBehind at (length s) part
found_lies s at direction part e = subst (Lies at (length s)) e (lies s at)

-- a reading that goes on behind each record: any fuel that lasts to the end gives the same
module _ {A : Type 0} (s : List ℕ) (within : ℕ → ℕ → A) (step : (ℕ → A) → ℕ → Found → A) (done : ℕ → A)
    (base : (at : ℕ) → within zero at ≡ done at)
    (next : (n at : ℕ) → within (suc n) at ≡ step (within n) at (found_at s at))
    (same_step : (f g : ℕ → A) (at : ℕ) (found : Found) → Lies at (length s) found → ((to : ℕ) → at < to → f to ≡ g to) → step f at found ≡ step g at found)
    (ends : (f : ℕ → A) (at : ℕ) (found : Found) → Lies at (length s) found → length s ≤ at → step f at found ≡ done at) where
  same_fuel : (n m at : ℕ) → length s - at ≤ n → length s - at ≤ m → within n at ≡ within m at
  same_fuel zero zero at h k = refl
  same_fuel zero (suc m) at h k = base at ∙ sym (next m at ∙ ends (within m) at (found_at s at) (lies s at) (omega arith))
  same_fuel (suc n) zero at h k = next n at ∙ ends (within n) at (found_at s at) (lies s at) (omega arith) ∙ sym (base at)
  same_fuel (suc n) (suc m) at h k =
      next n at
      ∙ same_step (within n) (within m) at (found_at s at) (lies s at) (λ to b. same_fuel n m to (omega arith) (omega arith))
      ∙ sym (next m at)

  onward : (at : ℕ) → within (length s - at) at ≡ step (λ to. within (length s - to) to) at (found_at s at)
  onward at =
      same_fuel (length s - at) (suc (length s - at)) at (omega arith) (omega arith)
      ∙ next (length s - at) at
      ∙ same_step (within (length s - at)) (λ to. within (length s - to) to) at (found_at s at) (lies s at)
      (λ to b. same_fuel (length s - at) (length s - to) to (omega arith) (omega arith))

records_same : (s : List ℕ) (f g : ℕ → List Record) (at : ℕ) (found : Found) → Lies at (length s) found → ((to : ℕ) → at < to → f to ≡ g to)
    → continued f s found ≡ continued g s found
records_same s f g at (Is direction part) l h = ap (λ (r : List Record). record_by direction (bytes_in part s) ∷ r) (h part.to (omega arith))
records_same s f g at End l h = refl
records_same s f g at (Refused fault) l h = refl

records_done : (s : List ℕ) (f : ℕ → List Record) (at : ℕ) (found : Found) → Lies at (length s) found → length s ≤ at → continued f s found ≡ []
records_done s f at (Is direction part) l h = absurd (omega arith)
records_done s f at End l h = refl
records_done s f at (Refused fault) l h = refl

stop_same : (n : ℕ) (f g : ℕ → ℕ) (at : ℕ) (found : Found) → Lies at n found → ((to : ℕ) → at < to → f to ≡ g to)
    → stopped f at found ≡ stopped g at found
stop_same n f g at (Is direction part) l h = h part.to (omega arith)
stop_same n f g at End l h = refl
stop_same n f g at (Refused fault) l h = refl

stop_done : (n : ℕ) (f : ℕ → ℕ) (at : ℕ) (found : Found) → Lies at n found → n ≤ at → stopped f at found ≡ at
stop_done n f at (Is direction part) l h = absurd (omega arith)
stop_done n f at End l h = refl
stop_done n f at (Refused fault) l h = refl

module _ (s : List ℕ) (at : ℕ) where
  pub records_onward : records_from s at ≡ continued (records_from s) s (found_at s at)
  unfolding records_within
  records_onward =
      onward s (λ k. records_within k s) (λ f b found. continued f s found) (λ b. []) (λ b. refl) (λ k b. refl)
      (records_same s) (records_done s) at

  pub stop_onward : stop_from s at ≡ stopped (stop_from s) at (found_at s at)
  unfolding stop_within
  stop_onward =
      onward s (λ k. stop_within k s) stopped (λ b. b) (λ b. refl) (λ k b. refl)
      (stop_same (length s)) (stop_done (length s)) at

  -- a record, and the rest behind it
  module _ (direction : Direction) (part : Part) (e : found_at s at ≡ Is direction part) where
    pub records_next : records_from s at ≡ record_by direction (bytes_in part s) ∷ records_from s part.to
    records_next = records_onward ∙ ap (continued (records_from s) s) e

    pub stop_next : stop_from s at ≡ stop_from s part.to
    stop_next = stop_onward ∙ ap (stopped (stop_from s) at) e

-- no record stands there
abbrev pub Over : Found → Type 0
Over found = (ended_by found ≡ Not) → ⊥

module _ (s : List ℕ) (at : ℕ) where
  records_none : (found : Found) → found_at s at ≡ found → Over found → records_from s at ≡ []
  records_none (Is direction part) e over = absurd (over refl)
  records_none End e over = records_onward s at ∙ ap (continued (records_from s) s) e
  records_none (Refused fault) e over = records_onward s at ∙ ap (continued (records_from s) s) e

  stop_none : (found : Found) → found_at s at ≡ found → Over found → stop_from s at ≡ at
  stop_none (Is direction part) e over = absurd (over refl)
  stop_none End e over = stop_onward s at ∙ ap (stopped (stop_from s) at) e
  stop_none (Refused fault) e over = stop_onward s at ∙ ap (stopped (stop_from s) at) e

  pub records_over : Over (found_at s at) → records_from s at ≡ []
  records_over over = records_none (found_at s at) refl over

  pub stop_over : Over (found_at s at) → stop_from s at ≡ at
  stop_over over = stop_none (found_at s at) refl over

stopped_most : (n : ℕ) (f : ℕ → ℕ) (at : ℕ) (found : Found) → Lies at n found → at ≤ n → ((to : ℕ) → to ≤ n → f to ≤ n) → stopped f at found ≤ n
stopped_most n f at (Is direction part) l h k = k part.to l.fits
stopped_most n f at End l h k = h
stopped_most n f at (Refused fault) l h k = h

within_most : (s : List ℕ) (n at : ℕ) → at ≤ length s → stop_within n s at ≤ length s
unfolding stop_within
within_most s zero at h = h
within_most s (suc n) at h = stopped_most (length s) (stop_within n s) at (found_at s at) (lies s at) h (λ to. within_most s n to)

pub stop_most : (s : List ℕ) (at : ℕ) → at ≤ length s → stop_from s at ≤ length s
stop_most s at h = within_most s (length s - at) at h

apart : Whole ≡ Not → ⊥
apart e = let z : ◌≡◌ {A = ℕ} 0 1 = cc in omega arith

fault_apart : (fault : Fault) → By fault ≡ Not → ⊥
fault_apart fault e = let z : ◌≡◌ {A = ℕ} 0 1 = cc in omega arith

-- what a match finds behind its first variant is no record
pub over_by : (found : Found) → (tag_of the_type found ≡ 1) ⊎ (tag_of the_type found ≡ 2) → Over found
over_by (Is direction part) (inl k) n = omega arith
over_by (Is direction part) (inr k) n = omega arith
over_by End k n = apart n
over_by (Refused fault) k n = fault_apart fault n

over_past : (at n : ℕ) (found : Found) → Lies at n found → n ≤ at → Over found
over_past at n (Is direction part) l h = absurd (omega arith)
over_past at n End l h = apart
over_past at n (Refused fault) l h = fault_apart fault

over_next : (s : List ℕ) (f : ℕ → ℕ) (at : ℕ) (found : Found) → found_at s at ≡ found → ((to : ℕ) → at < to → Over (found_at s (f to)))
    → Over (found_at s (stopped f at found))
over_next s f at (Is direction part) e k = let p : LiesBehind at (length s) part = found_lies s at direction part e in k part.to (omega arith)
over_next s f at End e k = λ n. apart (sym (ap ended_by e) ∙ n)
over_next s f at (Refused fault) e k = λ n. fault_apart fault (sym (ap ended_by e) ∙ n)

within_over : (s : List ℕ) (n at : ℕ) → length s - at ≤ n → Over (found_at s (stop_within n s at))
unfolding stop_within
within_over s zero at h = over_past at (length s) (found_at s at) (lies s at) (omega arith)
within_over s (suc n) at h = over_next s (stop_within n s) at (found_at s at) refl (λ to b. within_over s n to (omega arith))

module _ (s : List ℕ) (at : ℕ) where
  -- reading goes on as long as it finds a record: it never stops at one
  pub stops_over : Over (found_at s (stop_from s at))
  stops_over = within_over s (length s - at) at (omega arith)

  -- it ends whole exactly where it stops at the end
  pub whole_exactly : ended_by (found_at s (stop_from s at)) ≡ Whole → stop_from s at ≡ length s
  whole_exactly e = by (found_at s (stop_from s at)) refl e
    where
      by : (found : Found) → found_at s (stop_from s at) ≡ found → ended_by found ≡ Whole → stop_from s at ≡ length s
      by (Is direction part) f w = absurd (apart (sym w))
      by End f w = subst (Lies (stop_from s at) (length s)) f (lies s (stop_from s at))
      by (Refused fault) f w = let z : ◌≡◌ {A = ℕ} 0 1 = cc in absurd (omega arith)

  pub whole_ends : stop_from s at ≡ length s → ended_by (found_at s (stop_from s at)) ≡ Whole
  whole_ends e = ap ended_by (sym (found_end s (stop_from s at) e))

-- where reading that began at the front stops at a place, its extent is the one there
pub extent_is : (s : List ℕ) (at : ℕ) → stop_from s 0 ≡ at → extent_of s ≡ extent_at s at
extent_is s at e = ap (extent_at s) e
