-- What writing leaves, exactly; what was written reads back, one record and many; reader and writer accept the same. Assumes nothing.
use mathlib.Core.Bool.{true, false, not}
use mathlib.Core.List.{List, [], ◌∷◌, ◌++◌, append_assoc, append-nil}
use mathlib.Core.Logic.{◌↔◌}
use Rattle.std.specs.Prelude.{Option, None, Some, Result, Ok, Err}
use mathlib.Core.Path.{◌≡◌, refl, sym, ap, subst, ◌∙◌}
use Prim.Native.Nat.{ℕ, ◌+◌, ◌≤◌}
use native.Mathlib.Omega.{arith}
use lib.ListN.{length, take, drop, length-append, length-drop}
use lib.Seq.{length-take-le, take-length, take_at, drop_at}
use borrow.Author.Tests.{leb-true, le-leb, not-false}
use Rattle.numbers.specs.Bytes.{AllBytes}
use Rattle.verdict.specs.Check.{Check, first_fault, NoneApplies, IsFirst}
use Rattle.verdict.proofs.FirstFault.{clear, grants, first, first_found}
use Rattle.verdict.proofs.OneAnswer.{one_answer}
use Rattle.recording.specs.declared.Direction.{Direction}
use Rattle.recording.specs.declared.Fault.{Fault}
use Rattle.recording.specs.declared.Fault.TheVariants.{BadMark, BadDirection, BadLength, CutShort, NoRoom}
use Rattle.recording.specs.declared.Part.{Part}
use Rattle.recording.specs.declared.Ended.TheVariants.{Whole}
use Rattle.recording.specs.Format.{head_length, direction_number, directed_of, is_known, length_allowed, rules, entry, Record, direction_of, payload, entry_of, written, Formed, AllFormed}
use Rattle.recording.specs.Recording.{direction_at, count_at, HasAt, records_of, extent_of}
use Rattle.recording.proofs.Laws.{directed_number, directed_back}
use Rattle.recording.proofs.Written.{entry_length, entry_found, entry_bytes, reads_back, reads_whole}
use Rattle.recording.proofs.Exactly.{record_tells, AllGive, gives_only}
use Rattle.recording.proofs.Back.{read_allowed, read_entry, entry_read, entry_read_bytes, whole_back}
use Rattle.record_writer.specs.Writing.{writer_checks, written_by, left_by, written_of, left_of, Wrote, ReadsAt, WroteAll, none_written, one_written, WritesUp}

-- no second outcome meets the promise
pub wrote_once : {direction at : ℕ} {bytes before after after' : List ℕ} {r r' : Result ℕ Fault} → Wrote direction at bytes before after r
    → Wrote direction at bytes before after' r' → (r ≡ r') × (after ≡ after')
wrote_once a b = (one_answer a.answers b.answers, one_answer a.leaves b.leaves)

known_is : (x : Option Direction) → is_known x ≡ true → (Y : Type 0) → ((d : Direction) → x ≡ Some d → Y) → Y
known_is (Some d) e Y f = f d refl
known_is None e Y f = let z : ◌≡◌ {A = ℕ} 0 1 = cc in absurd (omega arith)

module _ (direction at : ℕ) (bytes before after : List ℕ) (r : Result ℕ Fault) (w : Wrote direction at bytes before after r) where
  abbrev checks : List (Check Fault)
  checks = writer_checks direction (length bytes) at (length before)

  -- refused exactly by the first fault, and then the buffer is as it was
  pub unwritten_exactly : (f : Fault) → (r ≡ Err f) ↔ IsFirst checks f
  unwritten_exactly f = (λ e. first checks f (by (first_fault checks) (sym w.answers ∙ e)), λ i. w.answers ∙ ap (λ (x : Option Fault). written_by x (at + head_length + length bytes)) (first_found checks f i))
    where
      by : (x : Option Fault) → written_by x (at + head_length + length bytes) ≡ Err f → x ≡ Some f
      by None e = let z : ◌≡◌ {A = ℕ} 0 1 = cc in absurd (omega arith)
      by (Some g) e = let k : g ≡ f = cc in ap Some k

  pub refused_leaves : (f : Fault) → r ≡ Err f → after ≡ before
  refused_leaves f e = w.leaves ∙ ap (λ (x : Option Fault). left_by x direction at bytes before) (first_found checks f ((unwritten_exactly f).0 e))

  -- written exactly where no fault applies
  pub written_exactly : (n : ℕ) → (r ≡ Ok n) ↔ (NoneApplies checks × (n ≡ at + head_length + length bytes))
  written_exactly n = (
    λ e. let told = by (first_fault checks) (sym w.answers ∙ e) in (clear checks told.0, told.1),
    λ h. w.answers ∙ ap (λ (x : Option Fault). written_by x (at + head_length + length bytes)) (grants checks h.0) ∙ ap Ok (sym h.1),
  )
    where
      by : (x : Option Fault) → written_by x (at + head_length + length bytes) ≡ Ok n → (x ≡ None) × (n ≡ at + head_length + length bytes)
      by None e = (refl, cc)
      by (Some g) e = let z : ◌≡◌ {A = ℕ} 0 1 = cc in absurd (omega arith)

  module _ (n : ℕ) (e : r ≡ Ok n) where
    pub place_behind : n ≡ at + head_length + length bytes
    place_behind = ((written_exactly n).0 e).1

    pub has_room : at + head_length + length bytes ≤ length before
    unfolding writer_checks NoneApplies
    has_room = leb-true _ _ (not-false _ ((written_exactly n).0 e).0.1.1.0)

    pub direction_known : is_known (directed_of direction) ≡ true
    unfolding writer_checks NoneApplies
    direction_known = not-false _ ((written_exactly n).0 e).0.0

    pub length_allowed_lem : length_allowed direction (length bytes) ≡ true
    unfolding writer_checks NoneApplies
    length_allowed_lem = not-false _ ((written_exactly n).0 e).0.1.0

    pub left : after ≡ take at before ++ (entry direction bytes ++ drop n before)
    left =
        w.leaves ∙ ap (λ (x : Option Fault). left_by x direction at bytes before) (grants checks ((written_exactly n).0 e).0)
        ∙ ap (λ (k : ℕ). take at before ++ (entry direction bytes ++ drop k before)) (sym place_behind)

    front : length (take at before) ≡ at
    front = let h : at + head_length + length bytes ≤ length before = has_room in length-take-le at before (omega arith)

    -- every byte outside the record is as it was
    pub before_kept : take at after ≡ take at before
    before_kept = ap (take at) left ∙ take_at (take at before) (entry direction bytes ++ drop n before) at front

    record_end : length (take at before ++ entry direction bytes) ≡ n
    record_end = length-append (take at before) (entry direction bytes) ∙ rw (front, entry_length direction bytes) (omega (arith, place_behind))

    pub behind_kept : drop n after ≡ drop n before
    behind_kept =
        ap (drop n) (left ∙ sym (append_assoc (take at before) (entry direction bytes) (drop n before)))
        ∙ drop_at (take at before ++ entry direction bytes) (drop n before) n record_end

    -- and up to its end stand the bytes before it and its own
    pub front_left : take n after ≡ take at before ++ entry direction bytes
    front_left =
        ap (take n) (left ∙ sym (append_assoc (take at before) (entry direction bytes) (drop n before)))
        ∙ take_at (take at before ++ entry direction bytes) (drop n before) n record_end

    pub length_kept : length after ≡ length before
    length_kept =
        let h : at + head_length + length bytes ≤ length before = has_room in
        ap length (left ∙ sym (append_assoc (take at before) (entry direction bytes) (drop n before)))
        ∙ length-append (take at before ++ entry direction bytes) (drop n before)
        ∙ omega (arith, record_end, length-drop n before, place_behind)

    -- it reads back
    pub written_reads : ReadsAt after at direction bytes n
    written_reads = known_is (directed_of direction) direction_known (ReadsAt after at direction bytes n) by
      where
        by : (d : Direction) → directed_of direction ≡ Some d → ReadsAt after at direction bytes n
        by d k =
            let number : direction ≡ direction_number d = directed_number direction d k in
            let allowed : length_allowed (direction_number d) (length bytes) ≡ true = rw (← number) length_allowed_lem in
            let around : take at before ++ (entry (direction_number d) bytes ++ drop n before) ≡ after = rw (← number) (sym left) in
            record {
              which = d;
              number = number;
              found = rw place_behind (rw (around, front) at (entry_found (take at before) d bytes (drop n before) allowed));
              contents = rw place_behind (rw (around, front) at (entry_bytes (take at before) d bytes (drop n before) allowed));
            }

-- a writer never finds a bad mark or a record that is cut short: these are faults of reading alone
abbrev Writers : Fault → Type 0
Writers BadMark = ⊥
Writers BadDirection = Unit {0}
Writers BadLength = Unit {0}
Writers CutShort = ⊥
Writers NoRoom = Unit {0}

module _ (direction at : ℕ) (bytes before after : List ℕ) (r : Result ℕ Fault) (w : Wrote direction at bytes before after r) where
  refuses : (f : Fault) → r ≡ Err f → Writers f
  unfolding AllGive writer_checks
  refuses f e =
      gives_only Writers (checks direction at bytes before after r w) f
      (first_found (checks direction at bytes before after r w) f ((unwritten_exactly direction at bytes before after r w f).0 e)) (tt, (tt, (tt, tt)))

  pub never_bad_mark : r ≡ Err BadMark → ⊥
  never_bad_mark e = refuses BadMark e

  pub never_cut_short : r ≡ Err CutShort → ⊥
  never_cut_short e = refuses CutShort e

-- records written one behind the other: the buffer's front is those before and the recording that they make
pub all_left : (rs : List Record) (at : ℕ) (before : List ℕ) (to : ℕ) (after : List ℕ) → WroteAll rs at before to after
    → (AllFormed rs) × (take to after ≡ take at before ++ written rs)
unfolding AllFormed written
all_left _ _ _ _ _ (none_written at buffer) = (tt, sym (append-nil (take at buffer)))
all_left _ _ _ _ _ (one_written r rs at next to before between after w more) =
    let direction : ℕ = direction_number (direction_of r) in
    let rest = all_left rs next between to after more in
    let here : take next between ≡ take at before ++ entry direction (payload r) = front_left direction at (payload r) before between (Ok next) w next refl in (
      (length_allowed_lem direction at (payload r) before between (Ok next) w next refl, rest.0),
      rest.1 ∙ ap (λ (l : List ℕ). l ++ written rs) here ∙ append_assoc (take at before) (entry direction (payload r)) (written rs),
    )

-- and reaches up to the place that the last call answered
pub all_place : (rs : List Record) (at : ℕ) (before : List ℕ) (to : ℕ) (after : List ℕ) → WroteAll rs at before to after → to ≡ at + length (written rs)
unfolding written
all_place _ _ _ _ _ (none_written at buffer) = omega arith
all_place _ _ _ _ _ (one_written r rs at next to before between after w more) =
    let direction : ℕ = direction_number (direction_of r) in
    let rest : to ≡ next + length (written rs) = all_place rs next between to after more in
    let here : next ≡ at + head_length + length (payload r) = place_behind direction at (payload r) before between (Ok next) w next refl in
    omega (arith, length-append (entry_of r) (written rs), entry_length direction (payload r))

-- records that are formed are written wherever there is room for them
known_direction : (d : Direction) → not (is_known (directed_of (direction_number d))) ≡ false
known_direction d = ap (λ (x : Option Direction). not (is_known x)) (directed_back d)

none_applies : (r : Record) → Formed r → (at : ℕ) (before : List ℕ) → at + head_length + length (payload r) ≤ length before
    → NoneApplies (writer_checks (direction_number (direction_of r)) (length (payload r)) at (length before))
unfolding NoneApplies writer_checks
none_applies r formed at before room =
    (known_direction (direction_of r), (ap not formed, (ap not (le-leb (at + head_length + length (payload r)) (length before) room), tt)))

pub writes_up : (rs : List Record) → AllFormed rs → (at : ℕ) (before : List ℕ) → at + length (written rs) ≤ length before
    → WritesUp rs at before (at + length (written rs))
unfolding AllFormed written
writes_up [] formed at before room =
    let z : at ≡ at + 0 = omega arith in
    record { after = before; all = subst (λ (to : ℕ). WroteAll [] at before to before) z (none_written at before) }
writes_up (r ∷ rs) formed at before room =
    let direction : ℕ = direction_number (direction_of r) in
    let bytes = payload r in
    let long = length-append (entry_of r) (written rs) in
    let few = entry_length direction bytes in
    let next : ℕ = at + head_length + length bytes in
    let between = left_of direction at bytes before in
    let free = none_applies r formed.0 at before (omega arith) in
    let answer : Ok next ≡ written_of direction at bytes before = ap (λ (x : Option Fault). written_by x next) (sym (grants _ free)) in
    let wrote : Wrote direction at bytes before between (Ok next) = record { answers = answer; leaves = refl } in
    let same_length : length between ≡ length before = length_kept direction at bytes before between (Ok next) wrote next refl in
    let rest = writes_up rs formed.1 next between (omega arith) in
    let place : next + length (written rs) ≡ at + length (entry_of r ++ written rs) = omega arith in
    record { after = rest.after; all = subst (λ (to : ℕ). WroteAll (r ∷ rs) at before to rest.after) place (one_written r rs at next _ before between rest.after wrote rest.all) }

-- from the front on they read back, to the end
module _ (rs : List Record) (before : List ℕ) (to : ℕ) (after : List ℕ) (all : WroteAll rs 0 before to after) where
  pub all_bytes_written : take to after ≡ written rs
  all_bytes_written = (all_left rs 0 before to after all).1

  pub all_read_back : records_of (take to after) ≡ rs
  all_read_back = ap records_of all_bytes_written ∙ reads_back rs (all_left rs 0 before to after all).0

  pub all_read_whole : extent_of (take to after) ≡ record { count = to; ended = Whole }
  all_read_whole =
      let place : length (written rs) ≡ to = omega (arith, all_place rs 0 before to after all) in
      ap extent_of all_bytes_written ∙ reads_whole rs (all_left rs 0 before to after all).0 ∙ ap (λ (n : ℕ). record { count = n; ended = Whole }) place

-- the records of a recording that reads to its end, written again, are its bytes
pub same_again : (recording : List ℕ) → AllBytes recording → (extent_of recording).ended ≡ Whole → (before : List ℕ) (to : ℕ) (after : List ℕ)
    → WroteAll (records_of recording) 0 before to after → take to after ≡ recording
same_again recording bytes whole before to after all = all_bytes_written (records_of recording) before to after all ∙ whole_back recording bytes whole

-- a record is read exactly where its bytes stand and no rule applies
module _ (s : List ℕ) (at direction : ℕ) (bytes : List ℕ) where
  abbrev behind : ℕ
  behind = at + head_length + length bytes

  pub reads_entry : AllBytes s → ReadsAt s at direction bytes behind → NoneApplies (rules direction (length bytes)) × HasAt s at (entry direction bytes)
  unfolding NoneApplies
  reads_entry all a =
      let allowed : length_allowed direction (length bytes) ≡ true = rw (a.number, ← a.contents) (read_allowed s at a.which _ a.found) in
      let known : is_known (directed_of direction) ≡ true = rw a.number (ap is_known (directed_back a.which)) in
      ((ap not known, (ap not allowed, tt)), rw (a.number, ← a.contents) (read_entry s at a.which _ a.found all))

  pub entry_reads : NoneApplies (rules direction (length bytes)) → HasAt s at (entry direction bytes) → ReadsAt s at direction bytes behind
  unfolding NoneApplies
  entry_reads h there = known_is (directed_of direction) (not-false _ h.0) (ReadsAt s at direction bytes behind) by
    where
      by : (d : Direction) → directed_of direction ≡ Some d → ReadsAt s at direction bytes behind
      by d k =
          let number : direction ≡ direction_number d = directed_number direction d k in
          let allowed : length_allowed (direction_number d) (length bytes) ≡ true = rw (← number) (not-false _ h.1.0) in
          let stands : HasAt s at (entry (direction_number d) bytes) = rw (← number) there in
          record { which = d; number = number; found = entry_read s at d bytes allowed stands; contents = entry_read_bytes s at d bytes allowed stands }

module _ (direction : ℕ) (bytes : List ℕ) where
  abbrev alone : List ℕ
  alone = entry direction bytes

  abbrev end : ℕ
  end = head_length + length bytes

  first_direction : direction_at alone 0 ≡ direction
  unfolding entry
  first_direction = refl

  -- the reader accepts a record's bytes exactly where no rule applies
  pub accepts_same : ReadsAt alone 0 direction bytes end ↔ NoneApplies (rules direction (length bytes))
  unfolding NoneApplies
  accepts_same = (read, written_alone)
    where
      read : ReadsAt alone 0 direction bytes end → NoneApplies (rules direction (length bytes))
      read a =
          let told = record_tells alone 0 a.which _ a.found in
          let known : is_known (directed_of direction) ≡ true = ap (λ (n : ℕ). is_known (directed_of n)) (sym first_direction) ∙ told.0.known in
          let count : head_length + count_at alone 0 ≡ head_length + length bytes = ap (λ (p : Part). p.to) (sym told.2) in
          let counted : count_at alone 0 ≡ length bytes = omega arith in
          let allowed : length_allowed direction (length bytes) ≡ true =
          ap (length_allowed direction) (sym counted) ∙ ap (λ (n : ℕ). length_allowed n (count_at alone 0)) (sym first_direction) ∙ told.0.allowed in
          (ap not known, (ap not allowed, tt))

      written_alone : NoneApplies (rules direction (length bytes)) → ReadsAt alone 0 direction bytes end
      written_alone h = entry_reads alone 0 direction bytes h (take-length alone)
