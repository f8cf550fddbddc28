-- The numbers tell what was found and what was written; none of them is 0. Assumes nothing.
use mathlib.Core.List.{List}
use mathlib.Core.Logic.{◌↔◌}
use mathlib.Core.Path.{◌≡◌, refl, sym, ap, subst, ◌∙◌}
use Prim.Native.Nat.{ℕ, ◌<◌}
use native.Mathlib.Omega.{arith}
use lib.ListN.{length}
use Rattle.recording.specs.declared.Direction.{Direction}
use Rattle.recording.specs.declared.Fault.{Fault}
use Rattle.recording.specs.declared.Found.{Found}
use Rattle.recording.specs.declared.Found.TheVariants.{Is, End, Refused}
use Rattle.recording.specs.Format.{direction_number, fault_number}
use Rattle.recording.specs.Recording.{found_at, end_number, found_number}
use Rattle.recording.proofs.Laws.{direction_once}
use Rattle.recording.proofs.Exactly.{end_exactly}
use Rattle.recording.proofs.Numbers.{fault_once, fault_positive, fault_below, direction_above, found_positive}
use Rattle.record_writer.specs.Writing.{Wrote, written_of}
use Rattle.std.specs.Prelude.{Result, Ok, Err}
use Rattle.interface_record.specs.Post.{part_by, ReadsBytes, written_number, place_by, WritesBytes}

-- what was found, by its number
module _ (recording : List ℕ) (at r from to : ℕ) (told : ReadsBytes recording at r from to) where
  parts : (found : Found) → found_at recording at ≡ found → record { from = from; to = to } ≡ part_by at found
  parts found e =
      ap (λ (n : ℕ). record { from = n; to = to }) (told.first ∙ ap (λ (x : Found). (part_by at x).from) e)
      ∙ ap (λ (n : ℕ). record { from = (part_by at found).from; to = n }) (told.behind ∙ ap (λ (x : Found). (part_by at x).to) e)

  pub record_told : (d : Direction) → (r ≡ direction_number d) ↔ (found_at recording at ≡ Is d (record { from = from; to = to }))
  record_told d = (λ e. by (found_at recording at) refl (sym told.number ∙ e), λ e. told.number ∙ ap found_number e)
    where
      by : (found : Found) → found_at recording at ≡ found → found_number found ≡ direction_number d → found_at recording at ≡ Is d (record { from = from; to = to })
      by (Is c part) e n =
          let same : c ≡ d = direction_once c d n in
          e ∙ ap (Is c) (sym (parts (Is c part) e)) ∙ ap (λ (x : Direction). Is x (record { from = from; to = to })) same
      by End e n = absurd (omega (arith, direction_above d))
      by (Refused f) e n = absurd (omega (arith, direction_above d, fault_below f))

  pub end_told : (r ≡ end_number) ↔ (at ≡ length recording)
  end_told = (λ e. (end_exactly recording at).0 (by (found_at recording at) (sym told.number ∙ e)), λ e. told.number ∙ ap found_number ((end_exactly recording at).1 e))
    where
      by : (found : Found) → found_number found ≡ end_number → found ≡ End
      by (Is c part) n = absurd (omega (arith, direction_above c))
      by End n = refl
      by (Refused f) n = absurd (omega (arith, fault_below f))

  pub fault_told : (f : Fault) → (r ≡ fault_number f) ↔ (found_at recording at ≡ Refused f)
  fault_told f = (λ e. by (found_at recording at) (sym told.number ∙ e), λ e. told.number ∙ ap found_number e)
    where
      by : (found : Found) → found_number found ≡ fault_number f → found ≡ Refused f
      by (Is c part) n = absurd (omega (arith, direction_above c, fault_below f))
      by End n = absurd (omega (arith, fault_below f))
      by (Refused g) n = ap Refused (fault_once g f n)

  -- where there is no record the place stays
  pub place_stays : ((d : Direction) → r ≡ direction_number d → ⊥) → (from ≡ at) × (to ≡ at)
  place_stays none_there = by (found_at recording at) refl
    where
      by : (found : Found) → found_at recording at ≡ found → (from ≡ at) × (to ≡ at)
      by (Is c part) e = absurd (none_there c (told.number ∙ ap found_number e))
      by End e = (told.first ∙ ap (λ (x : Found). (part_by at x).from) e, told.behind ∙ ap (λ (x : Found). (part_by at x).to) e)
      by (Refused f) e = (told.first ∙ ap (λ (x : Found). (part_by at x).from) e, told.behind ∙ ap (λ (x : Found). (part_by at x).to) e)

  pub reading_answered : 0 < r
  reading_answered = subst (λ (n : ℕ). 0 < n) (sym told.number) (found_positive (found_at recording at))

-- what was written, by its number
module _ (direction at : ℕ) (bytes before after : List ℕ) (r to : ℕ) (told : WritesBytes direction at bytes before after r to) where
  wrote : (w : Result ℕ Fault) → written_of direction at bytes before ≡ w → Wrote direction at bytes before after w
  wrote w e = record { answers = sym e; leaves = told.leaves }

  pub written_told : (r ≡ 7) ↔ Wrote direction at bytes before after (Ok to)
  written_told = (λ e. by (written_of direction at bytes before) refl e, λ h. told.number ∙ ap written_number (sym h.answers))
    where
      by : (w : Result ℕ Fault) → written_of direction at bytes before ≡ w → r ≡ 7 → Wrote direction at bytes before after (Ok to)
      by (Ok n) e k = wrote (Ok to) (e ∙ ap Ok (sym (told.behind ∙ ap (place_by at) e)))
      by (Err f) e k = let n : r ≡ fault_number f = told.number ∙ ap written_number e in absurd (omega (arith, fault_below f))

  pub unwritten_told : (f : Fault) → (r ≡ fault_number f) ↔ Wrote direction at bytes before after (Err f)
  unwritten_told f = (λ e. by (written_of direction at bytes before) refl e, λ h. told.number ∙ ap written_number (sym h.answers))
    where
      by : (w : Result ℕ Fault) → written_of direction at bytes before ≡ w → r ≡ fault_number f → Wrote direction at bytes before after (Err f)
      by (Ok n) e k = let m : r ≡ 7 = told.number ∙ ap written_number e in absurd (omega (arith, fault_below f))
      by (Err g) e k =
          let n : r ≡ fault_number g = told.number ∙ ap written_number e in
          wrote (Err f) (e ∙ ap Err (fault_once g f (sym n ∙ k)))

  -- where it was not written the place stays
  pub written_place : (f : Fault) → r ≡ fault_number f → to ≡ at
  written_place f e = told.behind ∙ ap (place_by at) (sym ((unwritten_told f).0 e).answers)

  pub writing_answered : 0 < r
  writing_answered = by (written_of direction at bytes before) refl
    where
      by : (w : Result ℕ Fault) → written_of direction at bytes before ≡ w → 0 < r
      by (Ok n) e = let m : r ≡ 7 = told.number ∙ ap written_number e in omega arith
      by (Err f) e = let m : r ≡ fault_number f = told.number ∙ ap written_number e in omega (arith, fault_positive f)
