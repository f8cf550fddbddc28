-- What a packet of a write or of a read under way is answered.
use Rattle.std.specs.Prelude.{cond, List, ℕ, ◌+◌, ◌-◌, min, eqb, Ok, Err}
use Rattle.verdict.specs.Check.{first_fault, verdict_of, Verdict}
use Rattle.profile.specs.declared.Profile.{Profile}
use Rattle.profile.specs.Areas.{areas_of}
use Rattle.packet.specs.Frame.{longest_data}
use Rattle.flash.specs.declared.Act.TheVariants.{Nothing, Store}
use Rattle.flash.specs.Effects.{fetched}
use Rattle.packet_reply.specs.Reply.{status_reply, data_reply}
use Rattle.state.specs.declared.Range.{Range}
use Rattle.state.specs.declared.Stage.{Stage}
use Rattle.state.specs.declared.Stage.TheVariants.{Command, Writing, Reading}
use Rattle.state.specs.declared.State.{State}
use Rattle.packet_fields.specs.declared.Com.TheVariants.{Write, Read}
use Rattle.packet_fields.specs.Fields.{com_number, info_count}
use Rattle.check_transfer.specs.Transfer.{write_checks, next_checks}
use Rattle.answer.specs.Answer.{Answer, moved}

-- what is left of a range after n bytes
abbrev pub rest_of : Range → ℕ → Range
rest_of r n = record { next = r.next + n; left = r.left - n }

-- a write or a read after n more bytes: its end leads to command stage
unfoldable pub after : (Range → Stage) → Range → ℕ → Stage
after going r n = cond (eqb r.left n) Command (going (rest_of r n))

-- a packet of a read: 1,024 bytes, or all that remain if fewer
abbrev pub read_count : Range → ℕ
read_count r = min r.left longest_data

unfoldable pub read_packet : Profile → List ℕ → State → Range → Answer
read_packet p image st r =
    record { act = Nothing; state = moved (after Reading r (read_count r)) st; reply = data_reply (com_number Read) (fetched (areas_of p) r.next (read_count r) image) }

-- an end of a write or a read by an error: RES is that of the transfer, whatever the packet's
abbrev pub broken : ℕ → State → Verdict → Answer
broken res st v = record { act = Nothing; state = moved Command st; reply = status_reply res v }

unfoldable pub write_decided : State → Range → List ℕ → Verdict → Answer
write_decided st r q (Ok tt) =
    record { act = Store r.next (info_count q); state = moved (after Writing r (info_count q)) st; reply = status_reply (com_number Write) (Ok tt) }
write_decided st r q (Err reason) = broken (com_number Write) st (Err reason)

unfoldable pub answer_write : Profile → List ℕ → State → Range → List ℕ → Answer
answer_write p image st r q = write_decided st r q (verdict_of (first_fault (write_checks (areas_of p) image r q)))

unfoldable pub next_decided : Profile → List ℕ → State → Range → Verdict → Answer
next_decided p image st r (Ok tt) = read_packet p image st r
next_decided p image st r (Err reason) = broken (com_number Read) st (Err reason)

unfoldable pub answer_next : Profile → List ℕ → State → Range → List ℕ → Answer
answer_next p image st r q = next_decided p image st r (verdict_of (first_fault (next_checks q)))
