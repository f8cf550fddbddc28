-- What stands in a packet: its COM or RES and which command that is, its information, and the numbers in it.
use Rattle.std.specs.Prelude.{cond, List, [], ◌∷◌, ℕ, zero, suc, ◌+◌, ◌-◌, length, take, drop, get_or, ltb, eqb, Option}
use Rattle.std.specs.Option.{unwrap_or}
use Rattle.numbers.specs.Bytes.{number_at}
use Rattle.packet_fields.specs.declared.Com.{Com}
use Rattle.packet_fields.specs.declared.Com.TheVariants.{Inquiry, Erase, Write, Read, Authenticate, Baud, Signature, Area, Unknown}

-- the number of each command, which replies have as RES; what is no command has one that no byte is
abbrev pub com_number : Com → ℕ
com_number Inquiry = 0x00
com_number Erase = 0x12
com_number Write = 0x13
com_number Read = 0x15
com_number Authenticate = 0x30
com_number Baud = 0x34
com_number Signature = 0x3A
com_number Area = 0x3B
com_number Unknown = 0x100

-- the command that has a number, of those in a list
unfoldable pub com_in : List Com → ℕ → Com
com_in [] n = Unknown
com_in (cmd ∷ more) n = cond (eqb n (com_number cmd)) cmd (com_in more n)

unfoldable pub com_of : ℕ → Com
com_of n = com_in (Inquiry ∷ Erase ∷ Write ∷ Read ∷ Authenticate ∷ Baud ∷ Signature ∷ Area ∷ []) n

-- COM or RES of a packet, and the bytes between it and SUM; the 0 for none never decides: device_steps, proofs/Defaults, `packet_there`
abbrev pub code_at : List ℕ → ℕ
code_at q = get_or q 3 0

abbrev pub info_count : List ℕ → ℕ
info_count q = length q - 6

abbrev pub info_of : List ℕ → List ℕ
info_of q = take (info_count q) (drop 4 q)

-- where those bytes start; fewer bytes than a packet has give none, at the start
unfoldable pub info_at : List ℕ → ℕ
info_at q = cond (ltb (length q) 6) 0 4

-- the number in the four bytes from a place on; the 0 for bytes that are not there never decides: check_command, proofs/There, `sad_there`,
-- `ead_there` and `brt_there`
abbrev pub value_of : Option ℕ → ℕ
value_of n = unwrap_or n 0

unfoldable pub four_at : List ℕ → ℕ → ℕ
four_at q at = value_of (number_at 4 q at)

-- SAD and EAD of a range, BRT of a rate, and an area's number; the 0 for none never decides: check_command, proofs/There, `area_number_there`
abbrev pub sad_of : List ℕ → ℕ
sad_of q = four_at q 4

abbrev pub ead_of : List ℕ → ℕ
ead_of q = four_at q 8

abbrev pub brt_of : List ℕ → ℕ
brt_of q = four_at q 4

abbrev pub area_number_of : List ℕ → ℕ
area_number_of q = get_or q 4 0

abbrev pub info_length : Com → ℕ
info_length Inquiry = 0
info_length Erase = 8
info_length Write = 8
info_length Read = 8
info_length Authenticate = 16
info_length Baud = 4
info_length Signature = 0
info_length Area = 1
info_length Unknown = 0

-- the number in two bytes
unfoldable pub two_at : List ℕ → ℕ → ℕ
two_at bs at = value_of (number_at 2 bs at)

-- n single bytes from a place on
unfoldable pub bytes_from : ℕ → ℕ → List ℕ → List ℕ
bytes_from zero at bs = []
bytes_from (suc n) at bs = get_or bs at 0 ∷ bytes_from n (at + 1) bs
