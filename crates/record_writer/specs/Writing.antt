-- Writing a record into a lent buffer at a place.
use Rattle.std.specs.Prelude.{not, List, [], ◌∷◌, ◌++◌, ◌≡◌, ℕ, ◌+◌, length, take, drop, leb, Option, None, Some, Result, Ok, Err}
use Rattle.verdict.specs.Check.{Check, ◌gives◌, first_fault}
use Rattle.recording.specs.declared.Fault.{Fault}
use Rattle.recording.specs.declared.Fault.TheVariants.{NoRoom}
use Rattle.recording.specs.declared.Direction.{Direction}
use Rattle.recording.specs.declared.Found.TheVariants.{Is}
use Rattle.recording.specs.Format.{head_length, direction_number, rules, entry, Record, direction_of, payload}
use Rattle.recording.specs.Recording.{found_at, bytes_in}

-- what is wrong with a record of so many bytes, to be written at a place of a buffer of so many: a record's two rules, then the room
unfoldable pub writer_checks : ℕ → ℕ → ℕ → ℕ → List (Check Fault)
writer_checks direction count at size = rules direction count ++ (not (leb (at + head_length + count) size) gives NoRoom) ∷ []

-- the first of it, for these bytes and this buffer
abbrev pub writer_fault : ℕ → ℕ → List ℕ → List ℕ → Option Fault
writer_fault direction at bytes buffer = first_fault (writer_checks direction (length bytes) at (length buffer))

-- the place behind the record, or why there is none
abbrev pub written_by : Option Fault → ℕ → Result ℕ Fault
written_by None behind = Ok behind
written_by (Some fault) behind = Err fault

-- the buffer: the record between what stood before and behind it, or as it was
abbrev pub left_by : Option Fault → ℕ → ℕ → List ℕ → List ℕ → List ℕ
left_by None direction at bytes buffer = take at buffer ++ (entry direction bytes ++ drop (at + head_length + length bytes) buffer)
left_by (Some fault) direction at bytes buffer = buffer

-- what writing answers and leaves
abbrev pub written_of : ℕ → ℕ → List ℕ → List ℕ → Result ℕ Fault
written_of direction at bytes buffer = written_by (writer_fault direction at bytes buffer) (at + head_length + length bytes)

abbrev pub left_of : ℕ → ℕ → List ℕ → List ℕ → List ℕ
left_of direction at bytes buffer = left_by (writer_fault direction at bytes buffer) direction at bytes buffer

pub record Wrote (direction at : ℕ) (bytes before after : List ℕ) (r : Result ℕ Fault) : Type 0 where
  pub answers : r ≡ written_of direction at bytes before
  pub leaves : after ≡ left_of direction at bytes before

-- a record with these bytes and the direction of this number is read at a place, and the next stands behind it
pub record ReadsAt (recording : List ℕ) (at direction : ℕ) (bytes : List ℕ) (behind : ℕ) : Type 0 where
  pub which : Direction
  pub number : direction ≡ direction_number which
  pub found : found_at recording at ≡ Is which (record { from = at + head_length; to = behind })
  pub contents : bytes_in (record { from = at + head_length; to = behind }) recording ≡ bytes

-- records written one behind the other from a place on, each by a call
pub data WroteAll : List Record → ℕ → List ℕ → ℕ → List ℕ → Type 0 where
  none_written : (at : ℕ) (buffer : List ℕ) → WroteAll [] at buffer at buffer
  one_written : (r : Record) (rs : List Record) (at next to : ℕ) (before between after : List ℕ)
      → Wrote (direction_number (direction_of r)) at (payload r) before between (Ok next) → WroteAll rs next between to after
      → WroteAll (r ∷ rs) at before to after

-- records that calls do write from a place on, up to another
pub record WritesUp (rs : List Record) (at : ℕ) (before : List ℕ) (to : ℕ) : Type 0 where
  pub after : List ℕ
  pub all : WroteAll rs at before to after
