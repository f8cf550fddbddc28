-- The command and the data packets of a planned write: the device grants each, and what it is then. Assumes nothing.
use mathlib.Core.Bool.{true}
use mathlib.Core.List.{List, []}
use Rattle.std.specs.Prelude.{Option, None, Some, Ok}
use mathlib.Core.Path.{◌≡◌, refl, sym, ap, ◌∙◌}
use Prim.Native.Nat.{ℕ, ◌+◌, ◌%◌, ◌≤◌, ◌<◌}
use native.Mathlib.Omega.{arith}
use lib.ListN.{length}
use borrow.Author.Tests.{le-leb}
use Rattle.numbers.specs.Bytes.{bytes_of}
use Rattle.verdict.specs.declared.Reason.{Reason}
use Rattle.verdict.specs.Check.{first_fault, verdict_of, passes}
use Rattle.verdict.proofs.FirstFault.{granted_then}
use Rattle.profile.specs.declared.Profile.{Profile}
use Rattle.profile.specs.Areas.{areas_of}
use Rattle.profile_ranges.specs.declared.Purpose.TheVariants.{Write as ToWrite}
use Rattle.profile_ranges.specs.Ranges.{Permitted}
use Rattle.packet.specs.declared.Kind.TheVariants.{Command as CommandPacket, Data as DataPacket}
use Rattle.packet.specs.Packet.{ending_checks, ends_well}
use Rattle.packet.proofs.Laws.{impossible}
use Rattle.packet_fields.specs.declared.Com.TheVariants.{Write as ComWrite}
use Rattle.packet_fields.specs.Fields.{info_count, info_of}
use Rattle.packet_reply.specs.Reply.{status_reply}
use Rattle.flash.specs.declared.Act.TheVariants.{Nothing, Store}
use Rattle.flash.specs.Acts.{performed}
use Rattle.flash.specs.Effects.{fetched, stored}
use Rattle.flash.proofs.Performed.{performed_all}
use Rattle.flash_blank.specs.Blank.{searched}
use Rattle.flash_blank.proofs.Found.{AllBlank, blank_clean}
use Rattle.state.specs.declared.Range.{Range}
use Rattle.state.specs.declared.Stage.{Stage}
use Rattle.state.specs.declared.Stage.TheVariants.{Command, Writing}
use Rattle.state.specs.declared.State.{State}
use Rattle.state.specs.State.{window_of}
use Rattle.check_command.specs.Commands.{own_checks, known_checks, command_checks}
use Rattle.check_command.proofs.CommandLaws.{form_right, known_granted}
use Rattle.check_transfer.specs.Transfer.{unit_before, target_checks, write_checks}
use Rattle.check_transfer.proofs.TransferLaws.{right_amount, blank_target, target_granted}
use Rattle.answer.specs.Answer.{Answer, moved}
use Rattle.answer_command.specs.Grants.{span_of, grant_of, decided, answer_command}
use Rattle.answer_transfer.specs.Transfers.{after, write_decided, answer_write}
use Rattle.device_steps.specs.Step.{Machine, settled}
use Rattle.device_steps.specs.Feed.{Delivery}
use Rattle.host_request.specs.declared.Request.{Request}
use Rattle.host_request.specs.declared.Request.TheVariants.{Write, WriteData}
use Rattle.host_request.specs.Request.{packet_for, enclosable, request_checks}
use Rattle.host_request.proofs.Packets.{packet_whole, packet_code, packet_com, packet_count, packet_info, packet_sad, packet_ead}
use Rattle.host_device.specs.Agreement.{sending}
use Rattle.host_device.proofs.Whole.{whole_delivered}

-- a test that passes found no fault
passed_clear : (f : Option Reason) → passes f ≡ true → f ≡ None
passed_clear None e = refl
passed_clear (Some reason) e = impossible (cc)

-- the machine in a stage, with nothing held
abbrev pub idle_in : Stage → State → List ℕ → Machine
idle_in stage st image = record { image = image; held = []; state = moved stage st }

-- the delivery of a packet of a write that is granted
abbrev pub granted_to : Machine → List ℕ → Delivery
granted_to m q = record { machine = m; reply = status_reply 0x13 (Ok tt); consumed = length q }

-- the delivery of a packet that has an answer
abbrev answered_with : Profile → Machine → List ℕ → Answer → Delivery
answered_with p m q a = record { machine = (settled p m (info_of q) a).machine; reply = a.reply; consumed = length q }

-- a request's packet that ends well has no fault in its ending
ending_passed : (q : List ℕ) → ends_well q ≡ true → first_fault (ending_checks q) ≡ None
unfolding ends_well
ending_passed q e = passed_clear (first_fault (ending_checks q)) e

-- data of a write, in whole units, to blank flash
module _ (p : Profile) (image : List ℕ) (st : State) (r : Range) (piece : List ℕ) (Some : 1 ≤ length piece) (few : length piece ≤ 1024)
    (most : length piece ≤ r.left) (whole : (r.next + length piece) % unit_before (areas_of p) (r.next + length piece) ≡ 0)
    (blank : AllBlank (fetched (areas_of p) r.next (length piece) image)) where
  abbrev q : List ℕ
  q = packet_for WriteData piece

  -- such data makes a packet
  buildable : first_fault (request_checks WriteData (length piece)) ≡ None
  unfolding request_checks enclosable first_fault
  buildable = rw (le-leb 1 (length piece) Some, le-leb (length piece) 1024 few) refl

  -- no check of the write applies to it
  data_granted : verdict_of (first_fault (write_checks (areas_of p) image r q)) ≡ Ok tt
  unfolding write_checks
  data_granted =
      let n : length piece ≡ info_count q = sym (packet_count WriteData piece) in
      let amount = right_amount r.left q 0x13 (length piece) (sym (packet_code WriteData piece)) n refl (λ e. omega arith) most in
      let unit = unit_before (areas_of p) (r.next + length piece) in
      let target = fetched (areas_of p) r.next (length piece) image in
      let clean = blank_clean unit target blank in
      let units = blank_target (areas_of p) image r.next (length piece) unit refl whole target refl (searched unit target) refl clean in
      granted_then (ending_checks q) (target_checks (areas_of p) image r q) (ap verdict_of (ending_passed q (packet_whole WriteData piece buildable).1))
      ∙ sym (target_granted (areas_of p) image r q (Ok tt) amount refl (length piece) n (Ok tt) units)

  -- what answers n data bytes that are granted
  abbrev accepting : ℕ → Answer
  accepting n = record { act = Store r.next n; state = moved (after Writing r n) st; reply = status_reply 0x13 (Ok tt) }

  -- so it is answered OK
  data_answer : answer_write p image (moved (Writing r) st) r q ≡ accepting (length piece)
  unfolding answer_write write_decided
  data_answer =
      ap (write_decided (moved (Writing r) st) r q) data_granted ∙ ap accepting (packet_count WriteData piece)

  -- the act stores the packet's data
  piece_stored : performed (areas_of p) (Store r.next (length piece)) (info_of q) image ≡ stored (areas_of p) r.next piece image
  piece_stored =
      ap (λ (bytes : List ℕ). performed (areas_of p) (Store r.next (length piece)) bytes image) (packet_info WriteData piece)
      ∙ performed_all (areas_of p) r.next (length piece) piece image (omega arith)

  -- they are stored, and the write goes on behind them
  pub data_delivered : sending p (idle_in (Writing r) st image) WriteData piece
      ≡ granted_to (idle_in (after Writing r (length piece)) st (stored (areas_of p) r.next piece image)) q
  data_delivered =
      whole_delivered p DataPacket (idle_in (Writing r) st image) refl refl refl q (packet_whole WriteData piece buildable).0
      ∙ ap (answered_with p (idle_in (Writing r) st image) q) data_answer
      ∙ ap (λ (l : List ℕ). granted_to (idle_in (after Writing r (length piece)) st l) q) piece_stored

-- the command of a write that is permitted
module _ (p : Profile) (image : List ℕ) (st : State) (s e : ℕ) (start : s < 4294967296) (end : e < 4294967296)
    (permitted : Permitted (areas_of p) (window_of p st) ToWrite s e) where
  abbrev command : List ℕ
  command = packet_for (Write s e) []

  -- it makes a packet
  asked : first_fault (request_checks (Write s e) 0) ≡ None
  unfolding request_checks enclosable first_fault
  asked = refl

  -- no check of the command applies to it
  command_granted : verdict_of (first_fault (command_checks p (moved Command st) command)) ≡ Ok tt
  unfolding command_checks own_checks Permitted bytes_of
  command_granted =
      let r : Request = Write s e in
      let form = form_right Command 0x13 ComWrite 8 refl refl refl in
      let ending = ap verdict_of (ending_passed command (packet_whole r [] asked).1) in
      granted_then (ending_checks command) (known_checks p (moved Command st) command) ending
      ∙ known_granted p (moved Command st) command 0x13 ComWrite 8 (sym (packet_code r [])) (sym (packet_com r [])) (sym (packet_count r [])) form
      ∙ rw (packet_sad r [] s e refl start, packet_ead r [] s e refl end) (ap verdict_of permitted)

  -- so it is answered OK
  command_answer : answer_command p image (moved Command st) command
      ≡ record { act = Nothing; state = moved (Writing (span_of s e)) st; reply = status_reply 0x13 (Ok tt) }
  unfolding answer_command decided grant_of
  command_answer =
      let r : Request = Write s e in
      ap (decided p image (moved Command st) command) command_granted
      ∙ ap (grant_of p image (moved Command st) command) (packet_com r [])
      ∙ rw (packet_code r [], packet_sad r [] s e refl start, packet_ead r [] s e refl end) refl

  -- it starts the write, and no byte has changed
  pub command_delivered : sending p (idle_in Command st image) (Write s e) [] ≡ granted_to (idle_in (Writing (span_of s e)) st image) command
  unfolding performed
  command_delivered =
      whole_delivered p CommandPacket (idle_in Command st image) refl refl refl command (packet_whole (Write s e) [] asked).0
      ∙ ap (answered_with p (idle_in Command st image) command) command_answer
