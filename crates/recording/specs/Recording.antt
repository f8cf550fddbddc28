-- Reading a recording: what stands at a place; the records one behind the other; how far, and why no further.
use Rattle.std.specs.Prelude.{not, cond, List, [], ◌∷◌, ◌≡◌, ℕ, zero, suc, ◌+◌, ◌-◌, ◌≤◌, length, take, drop, get_or, leb, eqb, Option, None, Some}
use Rattle.numbers.specs.Bytes.{number, field}
use Rattle.numbers.specs.Same.{same}
use Rattle.verdict.specs.Check.{Check, ◌gives◌, first_fault}
use Rattle.recording.specs.declared.Direction.{Direction}
use Rattle.recording.specs.declared.Direction.TheVariants.{Host, Device, Reset}
use Rattle.recording.specs.declared.Fault.{Fault}
use Rattle.recording.specs.declared.Fault.TheVariants.{BadMark, BadDirection, CutShort}
use Rattle.recording.specs.declared.Part.{Part}
use Rattle.recording.specs.declared.Found.{Found}
use Rattle.recording.specs.declared.Found.TheVariants.{Is, End, Refused}
use Rattle.recording.specs.declared.Ended.{Ended}
use Rattle.recording.specs.declared.Ended.TheVariants.{Not, Whole, By}
use Rattle.recording.specs.declared.Extent.{Extent}
use Rattle.recording.specs.Format.{mark, head_length, direction_number, directed_of, direction_check, length_check, fault_number, Record, host, device, reset}

-- the fields of the record at a place; one that is not whole is cut short before its value counts (proofs/Steady)
abbrev pub direction_at : List ℕ → ℕ → ℕ
direction_at recording at = get_or recording (at + 2) 0

unfoldable pub count_at : List ℕ → ℕ → ℕ
count_at recording at = number (field 2 (at + 3) recording)

abbrev pub part_at : List ℕ → ℕ → Part
part_at recording at = record { from = at + head_length; to = at + head_length + count_at recording at }

-- a field that ends at `to` is not whole
abbrev pub cut_check : List ℕ → ℕ → Check Fault
cut_check recording to = not (leb to (length recording)) gives CutShort

-- what is wrong, each field judged as soon as it is whole: behind a known direction, and from the mark on
unfoldable pub length_checks : List ℕ → ℕ → ℕ → List (Check Fault)
length_checks recording at direction =
    cut_check recording (at + head_length)
    ∷ length_check direction (count_at recording at)
    ∷ cut_check recording (part_at recording at).to
    ∷ []

unfoldable pub read_checks : List ℕ → ℕ → List (Check Fault)
read_checks recording at =
    cut_check recording (at + 2)
    ∷ (not (same (field 2 at recording) mark) gives BadMark)
    ∷ cut_check recording (at + 3)
    ∷ direction_check (direction_at recording at)
    ∷ length_checks recording at (direction_at recording at)

-- a record to which no check applies has a known direction (proofs/Exactly, `tells`)
abbrev pub found_by : Option Fault → Option Direction → Part → Found
found_by (Some fault) direction part = Refused fault
found_by None (Some direction) part = Is direction part
found_by None None part = Refused BadDirection

-- what stands at a place: at the end nothing, behind it what is cut short
unfoldable pub found_at : List ℕ → ℕ → Found
found_at recording at =
    cond (eqb at (length recording)) End
    (found_by (first_fault (read_checks recording at)) (directed_of (direction_at recording at)) (part_at recording at))

-- the answer as a number: a record's is its direction's; 0 is none
abbrev pub end_number : ℕ
end_number = 6

abbrev pub found_number : Found → ℕ
found_number (Is direction part) = direction_number direction
found_number End = end_number
found_number (Refused fault) = fault_number fault

-- bytes that a recording has at a place
abbrev pub HasAt : List ℕ → ℕ → List ℕ → Type 0
HasAt recording at bytes = take (length bytes) (drop at recording) ≡ bytes

-- and in a part
abbrev pub bytes_in : Part → List ℕ → List ℕ
bytes_in part recording = take (part.to - part.from) (drop part.from recording)

-- a record by its direction
abbrev pub record_by : Direction → List ℕ → Record
record_by Host bytes = host bytes
record_by Device bytes = device bytes
record_by Reset bytes = reset

-- a record that was found, and what follows it
abbrev pub continued : (ℕ → List Record) → List ℕ → Found → List Record
continued more recording (Is direction part) = record_by direction (bytes_in part recording) ∷ more part.to
continued more recording End = []
continued more recording (Refused fault) = []

-- at most n records from a place on
unfoldable pub records_within : ℕ → List ℕ → ℕ → List Record
records_within zero recording at = []
records_within (suc n) recording at = continued (records_within n recording) recording (found_at recording at)

-- the records from a place on, up to the end or to the first that cannot be read; each has a byte at least
abbrev pub records_from : List ℕ → ℕ → List Record
records_from recording at = records_within (length recording - at) recording at

abbrev pub records_of : List ℕ → List Record
records_of recording = records_from recording 0

-- where reading stops: at the end, or at the first record that cannot be read
abbrev pub stopped : (ℕ → ℕ) → ℕ → Found → ℕ
stopped more at (Is direction part) = more part.to
stopped more at End = at
stopped more at (Refused fault) = at

unfoldable pub stop_within : ℕ → List ℕ → ℕ → ℕ
stop_within zero recording at = at
stop_within (suc n) recording at = stopped (stop_within n recording) at (found_at recording at)

abbrev pub stop_from : List ℕ → ℕ → ℕ
stop_from recording at = stop_within (length recording - at) recording at

-- how many bytes of a recording can be read; all of them if it is whole
abbrev pub readable : List ℕ → ℕ
readable recording = stop_from recording 0

-- how reading ends with what stands at a place: with a record it does not
abbrev pub ended_by : Found → Ended
ended_by (Is direction part) = Not
ended_by End = Whole
ended_by (Refused fault) = By fault

-- how far a recording can be read, and why no further
abbrev pub extent_at : List ℕ → ℕ → Extent
extent_at recording at = record { count = at; ended = ended_by (found_at recording at) }

abbrev pub extent_of : List ℕ → Extent
extent_of recording = extent_at recording (readable recording)

-- of a recording that was not read
abbrev pub unread : Extent
unread = record { count = 0; ended = Not }

-- as a number; 0 is that of a recording that was not read
abbrev pub ended_number : Ended → ℕ
ended_number Not = 0
ended_number Whole = end_number
ended_number (By fault) = fault_number fault

-- where the part of a record that stands at a place of n bytes lies: behind its head, and not past the end
pub record LiesBehind (at n : ℕ) (part : Part) : Type 0 where
  pub head : part.from ≡ at + head_length
  pub order : part.from ≤ part.to
  pub fits : part.to ≤ n

-- a record that was found lies inside a recording of n bytes
abbrev pub Inside : ℕ → Found → Type 0
Inside n (Is direction part) = (part.from ≤ part.to) × (part.to ≤ n)
Inside n End = Unit {0}
Inside n (Refused fault) = Unit {0}
