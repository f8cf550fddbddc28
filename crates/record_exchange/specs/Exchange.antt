-- What an exchange tells: the act, and where the next write data lands. It is read out of a complete request and its reply, and of nothing
-- else: no stage, no ID, no window, no area.
use Rattle.std.specs.Prelude.{Bool, cond, List, ℕ, ◌+◌, ◌≤◌, get_or, eqb, Option, Some, None, Ok}
use Rattle.numbers.specs.Same.{same}
use Rattle.id_code.specs.Identity.{erase_code}
use Rattle.packet.specs.declared.Kind.TheVariants.{Command as CommandPacket}
use Rattle.packet.specs.Packet.{start_of, good}
use Rattle.packet_fields.specs.declared.Com.{Com}
use Rattle.packet_fields.specs.declared.Com.TheVariants.{Inquiry, Erase, Write, Read, Authenticate, Baud, Signature, Area, Unknown}
use Rattle.packet_fields.specs.Fields.{com_number, com_of, code_at, info_count, info_of, info_length, sad_of, ead_of}
use Rattle.packet_reply.specs.Reply.{status_reply}
use Rattle.flash.specs.declared.Act.TheVariants.{Nothing, EraseRange, EraseAll, Store}
use Rattle.record_exchange.specs.declared.Told.{Told}

-- the reply is the OK status of the request's own COM or RES
unfoldable pub answered_ok : List ℕ → List ℕ → Bool
answered_ok q reply = same reply (status_reply (code_at q) (Ok tt))

-- nothing is done, and data lands where it would have landed
abbrev pub idle : Option ℕ → Told
idle landing = record { act = Nothing; landing = landing }

-- a command that was answered OK; the total-erase code erases, every other code lets in
unfoldable pub command_told : List ℕ → Com → Option ℕ → Told
command_told q Inquiry landing = idle landing
command_told q Erase landing = record { act = EraseRange (sad_of q) (ead_of q); landing = landing }
command_told q Write landing = record { act = Nothing; landing = Some (sad_of q) }
command_told q Read landing = idle landing
command_told q Authenticate landing = cond (same (info_of q) erase_code) (record { act = EraseAll; landing = landing }) (idle landing)
command_told q Baud landing = idle landing
command_told q Signature landing = idle landing
command_told q Area landing = idle landing
command_told q Unknown landing = idle landing

-- a command with as much information as its COM asks for
unfoldable pub command_read : List ℕ → List ℕ → Option ℕ → Told
command_read q reply landing =
    cond (eqb (info_count q) (info_length (com_of (code_at q))))
    (cond (answered_ok q reply) (command_told q (com_of (code_at q)) landing) (idle landing))
    (idle landing)

-- write data that was answered OK: it lands, and the next lands behind it; before any write command it lands nowhere
unfoldable pub data_told : List ℕ → Option ℕ → Told
data_told q None = idle None
data_told q (Some x) = record { act = Store x (info_count q); landing = Some (x + info_count q) }

-- only data with the RES of a write is written
unfoldable pub data_read : List ℕ → List ℕ → Option ℕ → Told
data_read q reply landing = cond (eqb (code_at q) (com_number Write)) (cond (answered_ok q reply) (data_told q landing) (idle landing)) (idle landing)

-- a request by its start byte; what is no whole packet with right ETX and SUM does nothing
unfoldable pub exchange_read : List ℕ → List ℕ → Option ℕ → Told
exchange_read q reply landing =
    cond (good q) (cond (eqb (get_or q 0 0) (start_of CommandPacket)) (command_read q reply landing) (data_read q reply landing)) (idle landing)

-- a landing place that n more bytes can be added to
abbrev pub CanMove : Option ℕ → ℕ → Type 0
CanMove None n = Unit {0}
CanMove (Some x) n = x + n ≤ 18446744073709551615
