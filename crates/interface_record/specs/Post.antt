-- What reading and writing a record from outside leave, by name.
use Rattle.std.specs.Prelude.{List, ◌≡◌, ℕ, Result, Ok, Err}
use Rattle.recording.specs.declared.Part.{Part}
use Rattle.recording.specs.declared.Found.{Found}
use Rattle.recording.specs.declared.Found.TheVariants.{Is, End, Refused}
use Rattle.recording.specs.Format.{fault_number}
use Rattle.recording.specs.Recording.{found_at, found_number}
use Rattle.recording.specs.declared.Fault.{Fault}
use Rattle.record_writer.specs.Writing.{written_of, left_of}

-- the record's part; where there is no record, an empty one at the place
abbrev pub part_by : ℕ → Found → Part
part_by at (Is direction part) = part
part_by at End = record { from = at; to = at }
part_by at (Refused fault) = record { from = at; to = at }

pub record ReadsBytes (recording : List ℕ) (at r from to : ℕ) : Type 0 where
  pub number : r ≡ found_number (found_at recording at)
  pub first : from ≡ (part_by at (found_at recording at)).from
  pub behind : to ≡ (part_by at (found_at recording at)).to

-- that the record was written, or why not
abbrev pub written_number : Result ℕ Fault → ℕ
written_number (Ok to) = 7
written_number (Err fault) = fault_number fault

-- the place behind the record; where it was not written, its own
abbrev pub place_by : ℕ → Result ℕ Fault → ℕ
place_by at (Ok to) = to
place_by at (Err fault) = at

pub record WritesBytes (direction at : ℕ) (bytes before after : List ℕ) (r to : ℕ) : Type 0 where
  pub number : r ≡ written_number (written_of direction at bytes before)
  pub behind : to ≡ place_by at (written_of direction at bytes before)
  pub leaves : after ≡ left_of direction at bytes before
