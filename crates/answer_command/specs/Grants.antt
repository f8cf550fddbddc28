-- What a complete command is answered.
use Rattle.std.specs.Prelude.{cond, List, ℕ, ◌+◌, ◌-◌, get_or, Ok, Err}
use Rattle.verdict.specs.Check.{first_fault, verdict_of, Verdict}
use Rattle.profile.specs.declared.Profile.{Profile}
use Rattle.profile.specs.Areas.{no_area}
use Rattle.baud.specs.Rate.{setting_of}
use Rattle.id_code.specs.Identity.{total_erase}
use Rattle.flash.specs.declared.Act.{Act}
use Rattle.flash.specs.declared.Act.TheVariants.{Nothing, EraseRange, EraseAll}
use Rattle.packet_messages.specs.Messages.{area_message, signature_message}
use Rattle.packet_reply.specs.Reply.{status_reply, data_reply}
use Rattle.packet_fields.specs.declared.Com.{Com}
use Rattle.packet_fields.specs.declared.Com.TheVariants.{Inquiry, Erase, Write, Read, Authenticate, Baud, Signature, Area, Unknown}
use Rattle.state.specs.declared.Range.{Range}
use Rattle.state.specs.declared.Stage.TheVariants.{Command, Writing}
use Rattle.state.specs.declared.State.{State}
use Rattle.state.specs.State.{fresh_state, with_line, with_held}
use Rattle.packet_fields.specs.Fields.{com_number, com_of, code_at, info_of, sad_of, ead_of, brt_of, area_number_of}
use Rattle.check_command.specs.Commands.{command_checks}
use Rattle.answer.specs.Answer.{Answer, moved}
use Rattle.answer_transfer.specs.Transfers.{read_packet}

-- the range SAD to EAD, both inclusive
abbrev pub span_of : ℕ → ℕ → Range
span_of s e = record { next = s; left = e + 1 - s }

-- a status reply to the request's own COM
abbrev pub told : List ℕ → Verdict → Act → State → Answer
told q v act st = record { act = act; state = st; reply = status_reply (code_at q) v }

-- contents that were asked for, and no byte of the flash changes
abbrev pub shown : ℕ → List ℕ → State → Answer
shown res bytes st = record { act = Nothing; state = with_held 0 st; reply = data_reply res bytes }

-- a code that was let in: total erase, or the command stage
unfoldable pub entered : Profile → State → List ℕ → Answer
entered p st q = cond (total_erase st.id (info_of q)) (told q (Ok tt) EraseAll (fresh_state p)) (told q (Ok tt) Nothing (moved Command st))

-- what each command does when it is granted; an unknown one never is, and an area's entry is there: device_steps, proofs/Defaults,
-- `unknown_not_granted` and `area_there`
unfoldable pub grant_of : Profile → List ℕ → State → List ℕ → Com → Answer
grant_of p image st q Inquiry = told q (Ok tt) Nothing (with_held 0 st)
grant_of p image st q Erase = told q (Ok tt) (EraseRange (sad_of q) (ead_of q)) (with_held 0 st)
grant_of p image st q Write = told q (Ok tt) Nothing (moved (Writing (span_of (sad_of q) (ead_of q))) st)
grant_of p image st q Read = read_packet p image st (span_of (sad_of q) (ead_of q))
grant_of p image st q Authenticate = entered p st q
grant_of p image st q Baud = told q (Ok tt) Nothing (with_held 0 (with_line (setting_of p.sci (brt_of q)) st))
grant_of p image st q Signature = shown (com_number Signature) (signature_message p) st
grant_of p image st q Area = shown (com_number Area) (area_message (get_or p.areas (area_number_of q) no_area)) st
grant_of p image st q Unknown = told q (Ok tt) Nothing (with_held 0 st)

-- a refused command changes nothing but that its packet is no longer held
unfoldable pub decided : Profile → List ℕ → State → List ℕ → Verdict → Answer
decided p image st q (Ok tt) = grant_of p image st q (com_of (code_at q))
decided p image st q (Err reason) = told q (Err reason) Nothing (with_held 0 st)

unfoldable pub answer_command : Profile → List ℕ → State → List ℕ → Answer
answer_command p image st q = decided p image st q (verdict_of (first_fault (command_checks p st q)))
