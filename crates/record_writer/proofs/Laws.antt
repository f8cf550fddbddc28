-- What the code's tests say of a record that is to be written. Assumes nothing.
use mathlib.Core.Bool.{true, false}
use mathlib.Core.List.{List, [], ◌∷◌, ◌++◌, append-nil}
use mathlib.Core.Path.{◌≡◌, refl, sym, ap, subst, ◌∙◌}
use Prim.Native.Nat.{ℕ, ◌+◌, ◌-◌, ◌≤◌}
use native.Mathlib.Omega.{arith}
use lib.ListN.{length, take, drop, set, length-append, length-drop, length-set}
use lib.Seq.{sets-eq, drop-length, take_at, drop-drop}
use lib.Dec.{leb}
use borrow.Author.Tests.{le-leb}
use Rattle.numbers.specs.Bytes.{bytes_of, with_number}
use Rattle.numbers.proofs.Copied.{part_count, pasted}
use Rattle.verdict.specs.Check.{first_fault}
use Rattle.recording.specs.declared.Direction.{Direction}
use Rattle.recording.specs.declared.Fault.TheVariants.{BadDirection, BadLength, NoRoom}
use Rattle.recording.specs.Format.{direction_number, directed_of, length_allowed, entry}
use Rattle.recording.proofs.Laws.{directed_back}
use Rattle.recording.proofs.Written.{entry_length}
use Rattle.std.specs.Prelude.{Result, None, Ok, Err}
use Rattle.recording.specs.declared.Fault.{Fault}
use Rattle.record_writer.specs.Writing.{writer_checks, Wrote}

module _ (direction at : ℕ) (bytes before : List ℕ) where
  pub direction_refused : directed_of direction ≡ None → Wrote direction at bytes before before (Err BadDirection)
  unfolding writer_checks first_fault
  direction_refused e = record { answers = rw e refl; leaves = rw e refl }

module _ (d : Direction) (at : ℕ) (bytes before : List ℕ) where
  pub length_refused : length_allowed (direction_number d) (length bytes) ≡ false → Wrote (direction_number d) at bytes before before (Err BadLength)
  unfolding writer_checks first_fault
  length_refused e = record { answers = rw (directed_back d, e) refl; leaves = rw (directed_back d, e) refl }

  module _ (allowed : length_allowed (direction_number d) (length bytes) ≡ true) where
    same_room : leb (at + 5 + length bytes) (length before) ≡ leb (at + (length bytes + 5)) (length before)
    same_room = let e : at + 5 + length bytes ≡ at + (length bytes + 5) = omega arith in ap (λ (n : ℕ). leb n (length before)) e

    pub room_refused : leb (at + (length bytes + 5)) (length before) ≡ false → Wrote (direction_number d) at bytes before before (Err NoRoom)
    unfolding writer_checks first_fault
    room_refused e = record { answers = rw (directed_back d, allowed, same_room, e) refl; leaves = rw (directed_back d, allowed, same_room, e) refl }

    pub record_written : leb (at + (length bytes + 5)) (length before) ≡ true → (after part : List ℕ) → part ≡ entry (direction_number d) bytes
        → after ≡ take at before ++ (part ++ drop (at + (length bytes + 5) - at) (drop at before))
        → Wrote (direction_number d) at bytes before after (Ok (at + (length bytes + 5)))
    unfolding writer_checks first_fault
    record_written e after part p a =
        let behind : at + (length bytes + 5) ≡ at + 5 + length bytes = omega arith in
        let count : at + (length bytes + 5) - at ≡ length bytes + 5 = omega arith in
        let rest : drop (at + (length bytes + 5) - at) (drop at before) ≡ drop (at + 5 + length bytes) before =
        ap (λ (n : ℕ). drop n (drop at before)) count ∙ drop-drop (length bytes + 5) at before ∙ ap (λ (n : ℕ). drop n before) behind in
        record {
          answers = rw (directed_back d, allowed, same_room, e) (ap Ok behind);
          leaves =
              rw (directed_back d, allowed, same_room, e) (a ∙ rw (p, rest) refl);
        }

-- a record by its direction's byte
pub written_as : {n m at : ℕ} {bytes before after : List ℕ} {r : Result ℕ Fault} → n ≡ m → Wrote m at bytes before after r → Wrote n at bytes before after r
written_as {n} {m} {at} {bytes} {before} {after} {r} e w = subst (λ (k : ℕ). Wrote k at bytes before after r) (sym e) w

-- mark, direction, length and bytes, stored one after the other into a part that is as long as the record
module _ (part w new bytes : List ℕ) (direction : ℕ) (long : length part ≡ length bytes + 5)
    (head : w ≡ with_number 2 (length bytes) 3 (set (set (set part 0 0x52) 1 0x4C) 2 direction)) where
  abbrev start : List ℕ
  start = 0x52 ∷ 0x4C ∷ direction ∷ bytes_of 2 (length bytes)

  started : w ≡ start ++ drop 5 part
  unfolding with_number bytes_of
  started =
      let stored = set (set (set part 0 0x52) 1 0x4C) 2 direction in
      let k : length stored ≡ length part = simp length-set refl in
      let t : leb 5 (length stored) ≡ true = le-leb 5 (length stored) (omega arith) in
      head ∙ rw t (sets-eq start part 0 (omega arith))

  pub start_length : length w ≡ length bytes + 5
  unfolding bytes_of
  start_length = ap length started ∙ length-append start (drop 5 part) ∙ ap (λ (n : ℕ). 5 + n) (length-drop 5 part) ∙ omega arith

  pub filled : new ≡ bytes ++ drop (length bytes) (take (length w - 5) (drop 5 w))
      → take 5 w ++ (new ++ drop (length w - 5) (drop 5 w)) ≡ entry direction bytes
  unfolding entry bytes_of
  filled e =
      let five : 5 ≤ length w = rw start_length (omega arith) in
      let count : length (take (length w - 5) (drop 5 w)) ≡ length bytes = part_count 5 (length w) w (omega arith) ∙ omega (arith, start_length) in
      let none : drop (length w) w ≡ [] = drop-length w in
      let front : take 5 w ≡ start = ap (take 5) started ∙ take_at start (drop 5 part) 5 refl in
      pasted 5 (length w) w (omega arith) five bytes new count e
      ∙ rw (none, front) (append-nil (start ++ bytes))

  pub as_long : new ≡ bytes ++ drop (length bytes) (take (length w - 5) (drop 5 w))
      → length (take 5 w ++ (new ++ drop (length w - 5) (drop 5 w))) ≡ length part
  as_long e = ap length (filled e) ∙ entry_length direction bytes ∙ omega arith
