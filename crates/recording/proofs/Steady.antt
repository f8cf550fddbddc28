-- What was judged stays judged whatever follows: no value of a field that is not there is looked at. Assumes nothing.
use mathlib.Core.Bool.{Bool, true, false}
use mathlib.Core.List.{List, ◌++◌}
use mathlib.Core.Path.{◌≡◌, refl, sym, ap, ◌∙◌}
use Prim.Native.Nat.{ℕ, ◌+◌, ◌≤◌}
use native.Mathlib.Omega.{arith}
use lib.ListN.{length, take, drop, length-append, length-drop, get_or-append}
use lib.Dec.{leb}
use lib.Seq.{take-append-le, drop-append-le}
use borrow.Author.Tests.{le-leb, leb-true}
use Rattle.numbers.specs.Bytes.{number, field}
use Rattle.numbers.specs.Same.{same}
use Rattle.recording.specs.declared.Direction.{Direction}
use Rattle.recording.specs.declared.Fault.{Fault}
use Rattle.recording.specs.declared.Fault.TheVariants.{CutShort}
use Rattle.recording.specs.declared.Part.{Part}
use Rattle.recording.specs.declared.Found.TheVariants.{Is, Refused}
use Rattle.recording.specs.Format.{mark, direction_number, directed_of, length_allowed}
use Rattle.recording.specs.Recording.{direction_at, count_at, part_at, found_at}
use Rattle.recording.proofs.Laws.{directed_back, head_cut, length_bad, bytes_cut, bytes_there, mark_cut, mark_bad, direction_cut, direction_bad, direction_known}
use Rattle.std.specs.Prelude.{Option, Some, None}
use Rattle.recording.proofs.Exactly.{record_tells, refused_exactly}

-- a field that is whole
module _ (s t : List ℕ) where
  longer : (k : ℕ) → leb k (length s) ≡ true → leb k (length (s ++ t)) ≡ true
  longer k h = let w : k ≤ length s = leb-true k (length s) h in le-leb k (length (s ++ t)) (omega (arith, length-append s t))

  field_on : (w k : ℕ) → k + w ≤ length s → field w k (s ++ t) ≡ field w k s
  field_on w k h =
      ap (take w) (drop-append-le k s t (omega arith))
      ∙ take-append-le w (drop k s) t (rw (length-drop k s) (omega arith))

module _ (s t : List ℕ) (at : ℕ) where
  mark_on : at + 2 ≤ length s → same (field 2 at (s ++ t)) mark ≡ same (field 2 at s) mark
  mark_on h = ap (λ (l : List ℕ). same l mark) (field_on s t 2 at h)

  direction_on : at + 3 ≤ length s → directed_of (direction_at (s ++ t) at) ≡ directed_of (direction_at s at)
  direction_on h = ap directed_of (get_or-append s t 0 (at + 2) (omega arith))

  count_on : at + 5 ≤ length s → count_at (s ++ t) at ≡ count_at s at
  unfolding count_at
  count_on h = ap number (field_on s t 2 (at + 3) (omega arith))

  off : at + 2 ≤ length s → at ≡ length (s ++ t) → ⊥
  off h e = omega (arith, length-append s t)

  -- a record is read whatever follows it
  pub read_on : (d : Direction) (part : Part) → found_at s at ≡ Is d part → found_at (s ++ t) at ≡ Is d part
  read_on d part e =
      let told = record_tells s at d part e in
      let f : at + 5 + count_at s at ≤ length s = told.0.fits in
      let more = length-append s t in
      let n : count_at (s ++ t) at ≡ count_at s at = count_on (omega arith) in
      sym (direction_known (s ++ t) at (off (omega arith)) (le-leb (at + 2) (length (s ++ t)) (omega arith)) (mark_on (omega arith) ∙ told.0.marked)
      (le-leb (at + 3) (length (s ++ t)) (omega arith)) d (direction_on (omega arith) ∙ ap directed_of told.1 ∙ directed_back d))
      ∙ sym (bytes_there (s ++ t) at d (le-leb (at + 5) (length (s ++ t)) (omega arith)) (rw (n, ← told.1) told.0.allowed)
      (rw n (le-leb (at + 5 + count_at s at) (length (s ++ t)) (omega arith))))
      ∙ rw n (ap (Is d) (sym told.2))

  -- and a fault other than "cut short" stays
  module _ (f : Fault) (no : f ≡ CutShort → ⊥) (e : found_at s at ≡ Refused f) where
    outside : at ≡ length s → ⊥
    outside = ((refused_exactly s at f).0 e).0

    cut : Refused CutShort ≡ found_at s at → ⊥
    cut c = let k : Refused CutShort ≡ Refused f = c ∙ e in no (cc)

    same_fault : {g : Fault} → Refused g ≡ found_at s at → Refused g ≡ found_at (s ++ t) at → found_at (s ++ t) at ≡ Refused f
    same_fault a b = sym b ∙ a ∙ e

    module _ (h : leb (at + 2) (length s) ≡ true) (m : same (field 2 at s) mark ≡ true) (k : leb (at + 3) (length s) ≡ true) where
      two : at + 2 ≤ length s
      two = leb-true (at + 2) (length s) h

      three : at + 3 ≤ length s
      three = leb-true (at + 3) (length s) k

      known_on : (d : Direction) → directed_of (direction_at s at) ≡ Some d → (w : Bool) → leb (at + 5) (length s) ≡ w
          → (a : Bool) → length_allowed (direction_number d) (count_at s at) ≡ a → (b : Bool) → leb (at + 5 + count_at s at) (length s) ≡ b
          → found_at (s ++ t) at ≡ Refused f
      known_on d x false w a l b g = absurd (cut (head_cut s at d w ∙ direction_known s at outside h m k d x))
      known_on d x true w false l b g =
          let n : count_at (s ++ t) at ≡ count_at s at = count_on (leb-true (at + 5) (length s) w) in
          same_fault (length_bad s at d w l ∙ direction_known s at outside h m k d x)
          (length_bad (s ++ t) at d (longer s t (at + 5) w) (ap (length_allowed (direction_number d)) n ∙ l)
          ∙ direction_known (s ++ t) at (off two) (longer s t (at + 2) h) (mark_on two ∙ m) (longer s t (at + 3) k) d (direction_on three ∙ x))
      known_on d x true w true l false g = absurd (cut (bytes_cut s at d w l g ∙ direction_known s at outside h m k d x))
      known_on d x true w true l true g =
          let r : Is d (part_at s at) ≡ Refused f = bytes_there s at d w l g ∙ direction_known s at outside h m k d x ∙ e in
          let z : ◌≡◌ {A = ℕ} 0 1 = cc in
          absurd (omega arith)

      directed_on : (x : Option Direction) → directed_of (direction_at s at) ≡ x → found_at (s ++ t) at ≡ Refused f
      directed_on (Some d) x = known_on d x (leb (at + 5) (length s)) refl (length_allowed (direction_number d) (count_at s at)) refl (leb (at + 5 + count_at s at) (length s)) refl
      directed_on None x =
          same_fault (direction_bad s at outside h m k x)
          (direction_bad (s ++ t) at (off two) (longer s t (at + 2) h) (mark_on two ∙ m) (longer s t (at + 3) k) (direction_on three ∙ x))

    marked_on : (h : leb (at + 2) (length s) ≡ true) (x : Bool) → same (field 2 at s) mark ≡ x → (w : Bool) → leb (at + 3) (length s) ≡ w → found_at (s ++ t) at ≡ Refused f
    marked_on h false m w k =
        let two : at + 2 ≤ length s = leb-true (at + 2) (length s) h in
        same_fault (mark_bad s at outside h m) (mark_bad (s ++ t) at (off two) (longer s t (at + 2) h) (mark_on two ∙ m))
    marked_on h true m false k = absurd (cut (direction_cut s at outside h m k))
    marked_on h true m true k = directed_on h m k (directed_of (direction_at s at)) refl

    pub refused_on : found_at (s ++ t) at ≡ Refused f
    refused_on = by (leb (at + 2) (length s)) refl
      where
        by : (x : Bool) → leb (at + 2) (length s) ≡ x → found_at (s ++ t) at ≡ Refused f
        by false h = absurd (cut (mark_cut s at outside h))
        by true h = marked_on h (same (field 2 at s) mark) refl (leb (at + 3) (length s)) refl
