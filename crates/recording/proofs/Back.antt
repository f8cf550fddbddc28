-- A record is read exactly where its bytes stand; what can be read, written again, is what was read. Assumes nothing.
use mathlib.Core.Bool.{true}
use mathlib.Core.List.{List, [], ◌∷◌, ◌++◌}
use mathlib.Core.Path.{◌≡◌, refl, sym, ap, ◌∙◌}
use Prim.Native.Nat.{ℕ, zero, suc, ◌+◌, ◌-◌, ◌≤◌}
use native.Mathlib.Omega.{arith}
use lib.ListN.{length, take, drop, length-take, length-drop, take-append-drop}
use lib.Seq.{length-take-le, take-length, drop-cons, drop-drop, take-add}
use borrow.Author.Tests.{eqb-true}
use Rattle.numbers.specs.Bytes.{bytes_of, field, AllBytes}
use Rattle.numbers.proofs.RoundTrip.{bytes_number, all_take, all_drop}
use Rattle.numbers.proofs.Same.{same_eq}
use Rattle.numbers.proofs.There.{field_there}
use Rattle.recording.specs.declared.Direction.{Direction}
use Rattle.recording.specs.declared.Direction.TheVariants.{Host, Device, Reset}
use Rattle.recording.specs.declared.Part.{Part}
use Rattle.recording.specs.declared.Found.{Found}
use Rattle.recording.specs.declared.Found.TheVariants.{Is, End, Refused}
use Rattle.recording.specs.declared.Ended.TheVariants.{Whole}
use Rattle.recording.specs.Format.{mark, head_length, direction_number, length_allowed, entry, entry_of, written, Formed, AllFormed}
use Rattle.recording.specs.Recording.{direction_at, count_at, part_at, found_at, HasAt, bytes_in, record_by, continued, records_within, records_of, stopped, stop_within, readable, extent_of, LiesBehind}
use Rattle.recording.proofs.Reading.{Checked, found_lies, whole_exactly}
use Rattle.recording.proofs.Written.{entry_length, entry_found, entry_bytes}
use Rattle.recording.proofs.Exactly.{record_tells}

-- a part in two
take_split : (a b at : ℕ) (s : List ℕ) → take (a + b) (drop at s) ≡ take a (drop at s) ++ take b (drop (at + a) s)
take_split a b at s = take-add a b (drop at s) ∙ ap (λ (l : List ℕ). take a (drop at s) ++ take b l) (drop-drop a at s)

-- a record to which no check applies is the entry of its direction and its bytes
module _ (s : List ℕ) (at : ℕ) (bytes : AllBytes s) (k : Checked s at) where
  abbrev count : ℕ
  count = count_at s at

  abbrev contents : List ℕ
  contents = take count (drop (at + 5) s)

  direction_there : take 1 (drop (at + 2) s) ≡ direction_at s at ∷ []
  direction_there = let f : at + 5 + count ≤ length s = k.fits in rw (drop-cons s (at + 2) 0 (omega arith)) refl

  length_there : take 2 (drop (at + 3) s) ≡ bytes_of 2 count
  unfolding count_at
  length_there =
      let f : at + 5 + count ≤ length s = k.fits in
      let two : length (field 2 (at + 3) s) ≡ 2 = field_there 2 (at + 3) s (omega arith) in
      sym (bytes_number (field 2 (at + 3) s) (all_take 2 (drop (at + 3) s) (all_drop (at + 3) s bytes)))
      ∙ ap (λ (w : ℕ). bytes_of w count) two

  contents_length : length contents ≡ count
  contents_length =
      let f : at + 5 + count ≤ length s = k.fits in
      length-take-le count (drop (at + 5) s) (rw (length-drop (at + 5) s) (omega arith))

  pub checked_entry : take (5 + count) (drop at s) ≡ entry (direction_at s at) contents
  unfolding entry
  checked_entry =
      let a : at + 2 + 1 ≡ at + 3 = omega arith in
      let b : at + 3 + 2 ≡ at + 5 = omega arith in
      let five : 5 + count ≡ 2 + (1 + (2 + count)) = omega arith in
      ap (λ (w : ℕ). take w (drop at s)) five
      ∙ take_split 2 (1 + (2 + count)) at s
      ∙ rw (take_split 1 (2 + count) (at + 2) s, a, take_split 2 count (at + 3) s, b, same_eq (field 2 at s) mark k.marked, direction_there, length_there, contents_length) refl

-- a record that is read: its bytes stand there, as many as its direction may have
module _ (s : List ℕ) (at : ℕ) (d : Direction) (part : Part) (e : found_at s at ≡ Is d part) where
  abbrev known : Checked s at
  known = (record_tells s at d part e).0

  direction_is : direction_at s at ≡ direction_number d
  direction_is = (record_tells s at d part e).1

  bytes_are : bytes_in part s ≡ take (count_at s at) (drop (at + 5) s)
  bytes_are =
      let place : part ≡ part_at s at = (record_tells s at d part e).2 in
      let few : at + 5 + count_at s at - (at + 5) ≡ count_at s at = omega arith in
      ap (λ (q : Part). bytes_in q s) place ∙ ap (λ (w : ℕ). take w (drop (at + 5) s)) few

  count_is_length : length (bytes_in part s) ≡ count_at s at
  count_is_length =
      let f : at + 5 + count_at s at ≤ length s = known.fits in
      ap length bytes_are ∙ length-take-le (count_at s at) (drop (at + 5) s) (rw (length-drop (at + 5) s) (omega arith))

  pub read_allowed : length_allowed (direction_number d) (length (bytes_in part s)) ≡ true
  read_allowed = rw (← direction_is, count_is_length) known.allowed

  pub read_part : part ≡ record { from = at + head_length; to = at + head_length + length (bytes_in part s) }
  read_part = (record_tells s at d part e).2 ∙ ap (λ (w : ℕ). record { from = at + head_length; to = at + head_length + w }) (sym count_is_length)

  pub read_entry : AllBytes s → HasAt s at (entry (direction_number d) (bytes_in part s))
  read_entry bytes =
      ap (λ (w : ℕ). take w (drop at s)) (entry_length (direction_number d) (bytes_in part s) ∙ ap (λ (w : ℕ). 5 + w) count_is_length)
      ∙ checked_entry s at bytes known
      ∙ rw (direction_is, ← bytes_are) refl

-- and bytes that stand there are read
module _ (s : List ℕ) (at : ℕ) (d : Direction) (bytes : List ℕ) (allowed : length_allowed (direction_number d) (length bytes) ≡ true)
    (there : HasAt s at (entry (direction_number d) bytes)) where
  abbrev behind : List ℕ
  behind = drop (length (entry (direction_number d) bytes)) (drop at s)

  place_inside : at ≤ length s
  place_inside =
      let l : length (take (length (entry (direction_number d) bytes)) (drop at s)) ≡ length (entry (direction_number d) bytes) = ap length there in
      let m = length-take (length (entry (direction_number d) bytes)) (drop at s) in
      let n : length (entry (direction_number d) bytes) ≡ 5 + length bytes = entry_length (direction_number d) bytes in
      let r : length (drop at s) ≡ length s - at = length-drop at s in
      omega arith

  around : take at s ++ (entry (direction_number d) bytes ++ behind) ≡ s
  around =
      ap (λ (l : List ℕ). take at s ++ (l ++ behind)) (sym there)
      ∙ ap (λ (l : List ℕ). take at s ++ l) (take-append-drop (length (entry (direction_number d) bytes)) (drop at s))
      ∙ take-append-drop at s

  before_length : length (take at s) ≡ at
  before_length = length-take-le at s place_inside

  pub entry_read : found_at s at ≡ Is d (record { from = at + head_length; to = at + head_length + length bytes })
  entry_read = rw (around, before_length) at (entry_found (take at s) d bytes behind allowed)

  pub entry_read_bytes : bytes_in (record { from = at + head_length; to = at + head_length + length bytes }) s ≡ bytes
  entry_read_bytes = rw (around, before_length) at (entry_bytes (take at s) d bytes behind allowed)

-- a reset has no bytes, so a record is its direction and its bytes
none_left : (bytes : List ℕ) → length bytes ≡ 0 → bytes ≡ []
none_left [] e = refl
none_left (b ∷ bs) e = absurd (omega arith)

pub record_payload : (d : Direction) (bytes : List ℕ) → length_allowed (direction_number d) (length bytes) ≡ true → entry_of (record_by d bytes) ≡ entry (direction_number d) bytes
unfolding length_allowed
record_payload Host bytes a = refl
record_payload Device bytes a = refl
record_payload Reset bytes a = ap (entry (direction_number Reset)) (sym (none_left bytes (eqb-true (length bytes) 0 a)))

pub formed_by : (d : Direction) (bytes : List ℕ) → length_allowed (direction_number d) (length bytes) ≡ true → Formed (record_by d bytes)
unfolding length_allowed
formed_by Host bytes a = a
formed_by Device bytes a = a
formed_by Reset bytes a = refl

-- every record that is read is as long as it may be
formed_within : (s : List ℕ) (n at : ℕ) → AllFormed (records_within n s at)
unfolding records_within AllFormed
formed_within s zero at = tt
formed_within s (suc n) at = by (found_at s at) refl (formed_within s n)
  where
    by : (found : Found) → found_at s at ≡ found → ((to : ℕ) → AllFormed (records_within n s to)) → AllFormed (continued (records_within n s) s found)
    by (Is d part) e later = (formed_by d (bytes_in part s) (read_allowed s at d part e), later part.to)
    by End e later = tt
    by (Refused fault) e later = tt

pub records_formed : (s : List ℕ) → AllFormed (records_of s)
records_formed s = formed_within s (length s - 0) 0

-- reading stops where it began or behind it
stop_least : (s : List ℕ) (n at : ℕ) → at ≤ stop_within n s at
unfolding stop_within
stop_least s zero at = omega arith
stop_least s (suc n) at = by (found_at s at) refl (stop_least s n)
  where
    by : (found : Found) → found_at s at ≡ found → ((to : ℕ) → to ≤ stop_within n s to) → at ≤ stopped (stop_within n s) at found
    by (Is d part) e later =
        let l : LiesBehind at (length s) part = found_lies s at d part e in
        let m : part.to ≤ stop_within n s part.to = later part.to in
        omega arith
    by End e later = omega arith
    by (Refused fault) e later = omega arith

-- what was read, written again
back_within : (s : List ℕ) → AllBytes s → (n at : ℕ) → written (records_within n s at) ≡ take (stop_within n s at - at) (drop at s)
unfolding records_within stop_within written
back_within s bytes zero at = let z : at - at ≡ 0 = omega arith in rw z refl
back_within s bytes (suc n) at = by (found_at s at) refl (back_within s bytes n)
  where
    none : [] ≡ take (at - at) (drop at s)
    none = let z : at - at ≡ 0 = omega arith in rw z refl

    by : (found : Found) → found_at s at ≡ found → ((to : ℕ) → written (records_within n s to) ≡ take (stop_within n s to - to) (drop to s))
        → written (continued (records_within n s) s found) ≡ take (stopped (stop_within n s) at found - at) (drop at s)
    by (Is d part) e later =
        let contents = bytes_in part s in
        let to = part.to in
        let behind : to ≡ at + head_length + length contents = ap (λ (q : Part). q.to) (read_part s at d part e) in
        let least : to ≤ stop_within n s to = stop_least s n to in
        let whole : stop_within n s to - at ≡ length (entry (direction_number d) contents) + (stop_within n s to - to) = omega (arith, entry_length (direction_number d) contents) in
        let place : at + length (entry (direction_number d) contents) ≡ to = omega (arith, entry_length (direction_number d) contents) in
        let rest : List ℕ = take (stop_within n s to - to) (drop to s) in
        ap (λ (l : List ℕ). l ++ written (records_within n s to)) (record_payload d contents (read_allowed s at d part e))
        ∙ ap (λ (l : List ℕ). entry (direction_number d) contents ++ l) (later to)
        ∙ ap (λ (l : List ℕ). l ++ rest) (sym (read_entry s at d part e bytes))
        ∙ ap (λ (k : ℕ). take (length (entry (direction_number d) contents)) (drop at s) ++ take (stop_within n s to - to) (drop k s)) (sym place)
        ∙ sym (take_split (length (entry (direction_number d) contents)) (stop_within n s to - to) at s)
        ∙ ap (λ (k : ℕ). take k (drop at s)) (sym whole)
    by End e later = none
    by (Refused fault) e later = none

module _ (s : List ℕ) (bytes : AllBytes s) where
  pub writes_back : written (records_of s) ≡ take (readable s) s
  writes_back = let none : readable s - 0 ≡ readable s = omega arith in back_within s bytes (length s - 0) 0 ∙ ap (λ (n : ℕ). take n s) none

  -- a recording that reads to its end is the same bytes again
  pub whole_back : (extent_of s).ended ≡ Whole → written (records_of s) ≡ s
  whole_back e = writes_back ∙ ap (λ (n : ℕ). take n s) (whole_exactly s 0 e) ∙ take-length s
