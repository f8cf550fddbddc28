-- The line on disk: what is read at a place of a recording, what writing a record leaves, and both ways round.
use Rattle.std.specs.Prelude.{List, ◌++◌, ◌↔◌, ◌≡◌, ℕ, ◌+◌, ◌≤◌, length, take, drop, Result, Ok, Err}
use Rattle.numbers.specs.Bytes.{AllBytes}
use Rattle.verdict.specs.Check.{NoneApplies, IsFirst}
use Rattle.recording.specs.declared.Direction.{Direction}
use Rattle.recording.specs.declared.Fault.{Fault}
use Rattle.recording.specs.declared.Fault.TheVariants.{CutShort}
use Rattle.recording.specs.declared.Part.{Part}
use Rattle.recording.specs.declared.Found.TheVariants.{Is, End, Refused}
use Rattle.recording.specs.declared.Ended.TheVariants.{Not, Whole}
use Rattle.recording.specs.Format.{head_length, rules, entry, Record, AllFormed, written}
use Rattle.recording.specs.Recording.{read_checks, found_at, HasAt, bytes_in, records_of, readable, extent_of}
use Rattle.record_writer.specs.Writing.{writer_checks, Wrote, ReadsAt, WroteAll, WritesUp}

-- reading one record, at any place of any bytes
pub record Reads : Type 0 where
  -- a record exactly where its bytes stand and neither rule of a record applies
  pub one : (s : List ℕ) → AllBytes s → (at direction : ℕ) (bytes : List ℕ)
      → ReadsAt s at direction bytes (at + head_length + length bytes) ↔ (NoneApplies (rules direction (length bytes)) × HasAt s at (entry direction bytes))
  -- and nothing else is a record: the next stands behind its bytes
  pub only : (s : List ℕ) (at : ℕ) (d : Direction) (part : Part) → found_at s at ≡ Is d part
      → part ≡ record { from = at + head_length; to = at + head_length + length (bytes_in part s) }
  -- the end exactly at the end
  pub end : (s : List ℕ) (at : ℕ) → (found_at s at ≡ End) ↔ (at ≡ length s)
  -- refused elsewhere, by the first fault
  pub refused : (s : List ℕ) (at : ℕ) (fault : Fault) → (found_at s at ≡ Refused fault) ↔ ((at ≡ length s → ⊥) × IsFirst (read_checks s at) fault)
  -- what is judged stays judged, whatever follows; only what is cut short may become something else
  pub steady_record : (s more : List ℕ) (at : ℕ) (d : Direction) (part : Part) → found_at s at ≡ Is d part → found_at (s ++ more) at ≡ Is d part
  pub steady_fault : (s more : List ℕ) (at : ℕ) (fault : Fault) → (fault ≡ CutShort → ⊥) → found_at s at ≡ Refused fault → found_at (s ++ more) at ≡ Refused fault

-- writing one record, at any place of any buffer
pub record Writes : Type 0 where
  -- written exactly where no check applies, and the answer is the place behind it
  pub behind : (direction at : ℕ) (bytes before after : List ℕ) (r : Result ℕ Fault) → Wrote direction at bytes before after r
      → (n : ℕ) → (r ≡ Ok n) ↔ (NoneApplies (writer_checks direction (length bytes) at (length before)) × (n ≡ at + head_length + length bytes))
  -- every byte outside it is as it was
  pub kept : (direction at : ℕ) (bytes before after : List ℕ) (r : Result ℕ Fault) → Wrote direction at bytes before after r
      → (n : ℕ) → r ≡ Ok n → (take at after ≡ take at before) × (drop n after ≡ drop n before)
  -- refused by the first check that applies, and then nothing is written
  pub refused : (direction at : ℕ) (bytes before after : List ℕ) (r : Result ℕ Fault) → Wrote direction at bytes before after r
      → (fault : Fault) → (r ≡ Err fault) ↔ IsFirst (writer_checks direction (length bytes) at (length before)) fault
  pub unwritten : (direction at : ℕ) (bytes before after : List ℕ) (r : Result ℕ Fault) → Wrote direction at bytes before after r
      → (fault : Fault) → r ≡ Err fault → after ≡ before
  -- no second answer, and no second buffer
  pub once : (direction at : ℕ) (bytes before after after' : List ℕ) (r r' : Result ℕ Fault) → Wrote direction at bytes before after r
      → Wrote direction at bytes before after' r' → (r ≡ r') × (after ≡ after')

pub record OnDisk : Type 0 where
  pub reads : Reads
  pub writes : Writes
  -- what is written reads back: a record,
  pub record_back : (direction at : ℕ) (bytes before after : List ℕ) (r : Result ℕ Fault) → Wrote direction at bytes before after r
      → (n : ℕ) → r ≡ Ok n → ReadsAt after at direction bytes n
  -- and records written one behind the other, to the end
  pub records_back : (rs : List Record) (before : List ℕ) (to : ℕ) (after : List ℕ) → WroteAll rs 0 before to after
      → (records_of (take to after) ≡ rs) × (extent_of (take to after) ≡ record { count = to; ended = Whole })
  -- and wherever there is room for them, records that have as many bytes as they may are written
  pub records_written : (rs : List Record) → AllFormed rs → (at : ℕ) (before : List ℕ) → at + length (written rs) ≤ length before
      → WritesUp rs at before (at + length (written rs))
  -- what is read writes back: a recording that reads to its end is the same bytes, and of any other the part that can be read
  pub bytes_back : (s : List ℕ) → AllBytes s → (extent_of s).ended ≡ Whole → (before : List ℕ) (to : ℕ) (after : List ℕ)
      → WroteAll (records_of s) 0 before to after → take to after ≡ s
  pub part_back : (s : List ℕ) → AllBytes s → (AllFormed (records_of s)) × (written (records_of s) ≡ take (readable s) s)
  -- reader and writer accept the same records: those to which neither rule applies
  pub same : (direction : ℕ) (bytes : List ℕ)
      → ReadsAt (entry direction bytes) 0 direction bytes (head_length + length bytes) ↔ NoneApplies (rules direction (length bytes))
  -- reading always ends: whole exactly where all was read
  pub ends : (s : List ℕ) → (extent_of s).ended ≡ Not → ⊥
  pub whole : (s : List ℕ) → ((extent_of s).ended ≡ Whole) ↔ ((extent_of s).count ≡ length s)
