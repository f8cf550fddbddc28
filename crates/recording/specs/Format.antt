-- The form of a recording, for whoever reads or writes one: records one behind the other, each a mark 52h 4Ch, a direction (48h host,
-- 44h device, 52h reset), a length in two bytes, high first, and that many bytes.
use Rattle.std.specs.Prelude.{Bool, true, false, not, ◌&&◌, cond, List, [], ◌∷◌, ◌++◌, ◌≡◌, ℕ, length, leb, eqb, Option, Some, None}
use Rattle.numbers.specs.Bytes.{bytes_of}
use Rattle.verdict.specs.Check.{Check, ◌gives◌}
use Rattle.recording.specs.declared.Direction.{Direction}
use Rattle.recording.specs.declared.Direction.TheVariants.{Host, Device, Reset}
use Rattle.recording.specs.declared.Fault.{Fault}
use Rattle.recording.specs.declared.Fault.TheVariants.{BadMark, BadDirection, BadLength, CutShort, NoRoom}

abbrev pub mark : List ℕ
mark = 0x52 ∷ 0x4C ∷ []

-- mark, direction and length
abbrev pub head_length : ℕ
head_length = 5

abbrev pub direction_number : Direction → ℕ
direction_number Host = 0x48
direction_number Device = 0x44
direction_number Reset = 0x52

-- the direction of a number; any number may be asked for
unfoldable pub directed_in : List Direction → ℕ → Option Direction
directed_in [] n = None
directed_in (d ∷ more) n = cond (eqb n (direction_number d)) (Some d) (directed_in more n)

unfoldable pub directed_of : ℕ → Option Direction
directed_of n = directed_in (Host ∷ Device ∷ Reset ∷ []) n

-- 1 to 1,030 bytes, but none for a reset
unfoldable pub length_allowed : ℕ → ℕ → Bool
length_allowed direction n = cond (eqb direction (direction_number Reset)) (eqb n 0) (leb 1 n && leb n 1030)

-- the two rules of a record: its direction, then its length
abbrev pub is_known : Option Direction → Bool
is_known (Some d) = true
is_known None = false

abbrev pub direction_check : ℕ → Check Fault
direction_check direction = not (is_known (directed_of direction)) gives BadDirection

abbrev pub length_check : ℕ → ℕ → Check Fault
length_check direction n = not (length_allowed direction n) gives BadLength

abbrev pub rules : ℕ → ℕ → List (Check Fault)
rules direction n = direction_check direction ∷ length_check direction n ∷ []

-- why a record is not read or not written, as a number; 0 is no fault's
abbrev pub fault_number : Fault → ℕ
fault_number BadMark = 1
fault_number BadDirection = 2
fault_number BadLength = 3
fault_number CutShort = 4
fault_number NoRoom = 5

-- a record's bytes in a recording
unfoldable pub entry : ℕ → List ℕ → List ℕ
entry direction bytes = mark ++ direction ∷ (bytes_of 2 (length bytes) ++ bytes)

-- a record; a reset has no bytes
pub data Record : Type 0 where
  host : List ℕ → Record
  device : List ℕ → Record
  reset : Record

abbrev pub direction_of : Record → Direction
direction_of (host bytes) = Host
direction_of (device bytes) = Device
direction_of reset = Reset

abbrev pub payload : Record → List ℕ
payload (host bytes) = bytes
payload (device bytes) = bytes
payload reset = []

abbrev pub entry_of : Record → List ℕ
entry_of r = entry (direction_number (direction_of r)) (payload r)

unfoldable pub written : List Record → List ℕ
written [] = []
written (r ∷ rs) = entry_of r ++ written rs

-- records that have as many bytes as they may
abbrev pub Formed : Record → Type 0
Formed r = length_allowed (direction_number (direction_of r)) (length (payload r)) ≡ true

unfoldable pub AllFormed : List Record → Type 0
AllFormed [] = Unit {0}
AllFormed (r ∷ rs) = Formed r × AllFormed rs
