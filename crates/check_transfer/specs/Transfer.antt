-- The packets of a write and of a read that is under way: their checks in order.
use Rattle.std.specs.Prelude.{Bool, true, false, ◌&&◌, not, List, [], ◌∷◌, ◌++◌, ℕ, ◌+◌, ◌-◌, ◌%◌, get_or, ltb, eqb, Option, Some, None}
use Rattle.verdict.specs.declared.Reason.{Reason}
use Rattle.verdict.specs.declared.Reason.TheVariants.{NotWriteData, NoData, TooMuchData, BrokenUnit, DirtyFlash, NotNextRequest}
use Rattle.verdict.specs.Check.{Check, ◌gives◌}
use Rattle.profile.specs.declared.Area.{Area}
use Rattle.profile.specs.Places.{place_of, unit_at}
use Rattle.packet.specs.Packet.{ending_checks}
use Rattle.flash.specs.Effects.{fetched}
use Rattle.flash_blank.specs.Blank.{searched}
use Rattle.state.specs.declared.Range.{Range}
use Rattle.packet_fields.specs.declared.Com.TheVariants.{Write, Read}
use Rattle.packet_fields.specs.Fields.{com_number, code_at, info_count}

abbrev pub is_dirty : Option ℕ → Bool
is_dirty None = false
is_dirty (Some n) = true

-- RES and the amount
unfoldable pub amount_checks : ℕ → List ℕ → List (Check Reason)
amount_checks left q =
    (not (eqb (code_at q) (com_number Write)) gives NotWriteData)
    ∷ (eqb (info_count q) 0 gives NoData)
    ∷ (ltb left (info_count q) gives TooMuchData)
    ∷ []

-- WAU of the area that holds the last byte before an address; for a packet that is no longer than what is left it is not 0: device_steps,
-- proofs/Defaults, `unit_there`
abbrev pub unit_before : List Area → ℕ → ℕ
unit_before areas behind = unit_at (place_of areas (behind - 1))

-- the packet's target ends on a boundary of that unit, and no unit of it holds another byte than FFh
unfoldable pub units_checks : List Area → List ℕ → ℕ → ℕ → ℕ → List (Check Reason)
units_checks areas image next count unit =
    (not (eqb ((next + count) % unit) 0) gives BrokenUnit)
    ∷ (is_dirty (searched unit (fetched areas next count image)) gives DirtyFlash)
    ∷ []

-- the amount, then the target
unfoldable pub target_checks : List Area → List ℕ → Range → List ℕ → List (Check Reason)
target_checks areas image r q =
    amount_checks r.left q
    ++ units_checks areas image r.next (info_count q) (unit_before areas (r.next + info_count q))

-- ETX and SUM before all
unfoldable pub write_checks : List Area → List ℕ → Range → List ℕ → List (Check Reason)
write_checks areas image r q = ending_checks q ++ target_checks areas image r q

-- only 81 00 02 15 00 E9 03 asks for the next packet; the 0 for no byte never decides: proofs/There, `next_there`
unfoldable pub asks_next : List ℕ → Bool
asks_next q = eqb (code_at q) (com_number Read) && (eqb (info_count q) 1 && eqb (get_or q 4 0) 0x00)

unfoldable pub next_checks : List ℕ → List (Check Reason)
next_checks q = ending_checks q ++ (not (asks_next q) gives NotNextRequest) ∷ []
