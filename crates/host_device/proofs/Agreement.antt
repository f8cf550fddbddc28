-- The two ends agree: the device takes a request's packet whole, and the judge says that it passed exactly if the device granted it, and refused
-- with exactly its code otherwise. Assumes nothing.
use mathlib.Core.Bool.{Bool, true, false, cond}
use mathlib.Core.List.{List}
use Rattle.std.specs.Prelude.{None, Ok, Err}
use mathlib.Core.Path.{◌≡◌, refl, sym, ap, subst, ◌∙◌}
use Prim.Native.Nat.{ℕ, ◌+◌, ◌-◌, ◌≤◌}
use native.Mathlib.Omega.{arith}
use lib.ListN.{length, get_or}
use borrow.Author.Tests.{le-leb, eqb-false}
use Rattle.numbers.specs.Bytes.{bytes_of}
use Rattle.verdict.specs.Check.{first_fault, verdict_of, Verdict}
use Rattle.verdict.proofs.FirstFault.{granted_clear}
use Rattle.profile.specs.declared.Profile.{Profile}
use Rattle.profile.specs.Areas.{areas_of, no_area}
use Rattle.packet.specs.declared.Kind.TheVariants.{Command as CommandPacket, Data as DataPacket}
use Rattle.packet.specs.declared.Progress.TheVariants.{Complete}
use Rattle.packet.specs.Packet.{permitted, progress_of}
use Rattle.packet.proofs.Laws.{impossible}
use Rattle.packet.proofs.Frames.{frame_complete}
use Rattle.packet_fields.specs.declared.Com.{Com}
use Rattle.packet_fields.specs.declared.Com.TheVariants.{Read as ComRead}
use Rattle.packet_fields.specs.Fields.{com_of, code_at, info_of, sad_of, ead_of, area_number_of}
use Rattle.packet_messages.specs.Messages.{area_message, signature_message}
use Rattle.flash.specs.declared.Act.TheVariants.{Nothing as NoAct, EraseAll}
use Rattle.flash.specs.Effects.{fetched}
use Rattle.id_code.specs.Identity.{total_erase}
use Rattle.state.specs.declared.Awaited.TheVariants.{Packet}
use Rattle.state.specs.declared.Range.{Range}
use Rattle.state.specs.declared.Stage.{Stage}
use Rattle.state.specs.declared.Stage.TheVariants.{Setting, Authentication, Command, Writing, Reading}
use Rattle.state.specs.declared.State.{State}
use Rattle.state.specs.State.{fresh_state}
use Rattle.state.specs.Awaits.{awaits_of}
use Rattle.check_command.specs.Commands.{command_checks}
use Rattle.check_transfer.specs.Transfer.{write_checks, next_checks}
use Rattle.answer.specs.Answer.{moved}
use Rattle.answer_command.specs.Grants.{told, span_of, entered, grant_of, decided, answer_command}
use Rattle.answer_command.proofs.Spans.{read_span}
use Rattle.answer_transfer.specs.Transfers.{read_count, read_packet, write_decided, answer_write, next_decided, answer_next}
use Rattle.device_steps.specs.Step.{Machine, answer_of}
use Rattle.device_steps.specs.Feed.{Delivery}
use Rattle.device_steps.proofs.Replies.{IsPacket}
use Rattle.device_steps.proofs.Defaults.{read_whole, first_whole}
use Rattle.host_request.specs.declared.Request.{Request}
use Rattle.host_request.specs.declared.Request.TheVariants.{Inquiry, Erase, Write, Read, Authenticate, Baud, Signature, Area, WriteData, Next}
use Rattle.host_request.specs.Request.{com_for, number_for, kind_for, packet_for}
use Rattle.host_request.proofs.Packets.{buildable_left, packet_whole, packet_code, packet_com, packet_sad, packet_ead}
use Rattle.host_judge.specs.declared.Judgement.TheVariants.{Passed}
use Rattle.host_judge.specs.declared.Due.TheVariants.{Data}
use Rattle.host_judge.specs.Reply.{read_due, due_for, judgement_of}
use Rattle.host_device.specs.Agreement.{InRead, InStep, Sent, verdict_in, told_as, sending, Agrees}
use Rattle.host_device.proofs.Whole.{whole_of, whole_delivered, whole_answered}
use Rattle.host_device.proofs.Taken.{whole_taken}
use Rattle.host_device.proofs.Replies.{refusal_judged, status_passes, data_passes, read_due_lem}

-- a device that is in step awaits a packet of the request's kind
pub step_awaits : (r : Request) (stage : Stage) → InStep r stage → awaits_of stage ≡ Packet (kind_for r)
step_awaits Inquiry stage i = i
step_awaits (Erase s e) stage i = i
step_awaits (Write s e) stage i = i
step_awaits (Read s e) stage i = i
step_awaits Authenticate stage i = i
step_awaits (Baud brt) stage i = i
step_awaits Signature stage i = i
step_awaits (Area n) stage i = i
step_awaits WriteData stage i = ap awaits_of i.is
step_awaits (Next left) stage i = ap awaits_of i.is

-- a packet of a read passes where as much is due
read_passes : (r : Request) (range : Range) (image : List ℕ) (p : Profile) → due_for r ≡ read_due range.left → number_for r ≡ 0x15 → 1 ≤ range.left
    → length (fetched (areas_of p) range.next (read_count range) image) ≡ read_count range
    → (st : State) → judgement_of r (read_packet p image st range).reply ≡ Passed
unfolding read_packet
read_passes r range image p due number some whole st =
    let bytes = fetched (areas_of p) range.next (read_count range) image in
    data_passes r 0x15 (sym number) bytes (due ∙ read_due_lem range.left some ∙ ap Data (sym whole)) (omega arith) (omega arith)

-- a code that is let in is told so, whatever it does
entered_passes : (p : Profile) (st : State) (q : List ℕ) → code_at q ≡ 0x30 → judgement_of Authenticate (entered p st q).reply ≡ Passed
unfolding entered
entered_passes p st q code = by (total_erase st.id (info_of q))
  where
    by : (t : Bool)
        → judgement_of Authenticate (cond t (told q (Ok tt) EraseAll (fresh_state p)) (told q (Ok tt) NoAct (moved Command st))).reply ≡ Passed
    by true = status_passes Authenticate (code_at q) code refl
    by false = status_passes Authenticate (code_at q) code refl

-- the first packet of a read has as many bytes as are due
module _ (p : Profile) (m : Machine) (sad ead : ℕ) (bytes : List ℕ) (s : Sent p m (Read sad ead) bytes) where
  abbrev asked : List ℕ
  asked = packet_for (Read sad ead) bytes

  first_passes : first_fault (command_checks p m.state asked) ≡ None
      → judgement_of (Read sad ead) (read_packet p m.image m.state (span_of (sad_of asked) (ead_of asked))).reply ≡ Passed
  first_passes granted =
      let cmd : com_of (code_at asked) ≡ ComRead = packet_com (Read sad ead) bytes in
      let from : sad_of asked ≡ sad = packet_sad (Read sad ead) bytes sad ead refl s.width.0 in
      let to : ead_of asked ≡ ead = packet_ead (Read sad ead) bytes sad ead refl s.width.1 in
      let ordered : sad_of asked ≤ ead_of asked = (read_span p m.state asked s.profile granted cmd).0 in
      let left : ead + 1 - sad ≡ ead_of asked + 1 - sad_of asked = omega arith in
      read_passes (Read sad ead) (span_of (sad_of asked) (ead_of asked)) m.image p (ap read_due left) refl (omega arith)
      (first_whole p s.profile m s.fits s.image asked granted cmd) m.state

-- a command that is granted passes
grant_passes : (p : Profile) (m : Machine) (r : Request) (bytes : List ℕ) → Sent p m r bytes → kind_for r ≡ CommandPacket
    → first_fault (command_checks p m.state (packet_for r bytes)) ≡ None
    → judgement_of r (grant_of p m.image m.state (packet_for r bytes) (com_for r)).reply ≡ Passed
unfolding grant_of signature_message area_message bytes_of
grant_passes p m Inquiry bytes s k granted = status_passes Inquiry (code_at (packet_for Inquiry bytes)) (packet_code Inquiry bytes) refl
grant_passes p m (Erase sad ead) bytes s k granted =
    status_passes (Erase sad ead) (code_at (packet_for (Erase sad ead) bytes)) (packet_code (Erase sad ead) bytes) refl
grant_passes p m (Write sad ead) bytes s k granted =
    status_passes (Write sad ead) (code_at (packet_for (Write sad ead) bytes)) (packet_code (Write sad ead) bytes) refl
grant_passes p m (Read sad ead) bytes s k granted = first_passes p m sad ead bytes s granted
grant_passes p m Authenticate bytes s k granted = entered_passes p m.state (packet_for Authenticate bytes) (packet_code Authenticate bytes)
grant_passes p m (Baud brt) bytes s k granted =
    status_passes (Baud brt) (code_at (packet_for (Baud brt) bytes)) (packet_code (Baud brt) bytes) refl
grant_passes p m Signature bytes s k granted = data_passes Signature 0x3A refl (signature_message p) refl (omega arith) (omega arith)
grant_passes p m (Area n) bytes s k granted =
    data_passes (Area n) 0x3B refl (area_message (get_or p.areas (area_number_of (packet_for (Area n) bytes)) no_area)) refl (omega arith) (omega arith)
grant_passes p m WriteData bytes s k granted = impossible (cc)
grant_passes p m (Next left) bytes s k granted = impossible (cc)

-- what the judge makes of what a device answers
module _ (p : Profile) (m : Machine) (r : Request) (bytes : List ℕ) (s : Sent p m r bytes) where
  abbrev packet : List ℕ
  packet = packet_for r bytes

  -- by the checks of a command
  command_agrees : kind_for r ≡ CommandPacket
      → judgement_of r (answer_command p m.image m.state packet).reply ≡ told_as (verdict_of (first_fault (command_checks p m.state packet)))
  unfolding answer_command decided
  command_agrees k = by (verdict_of (first_fault (command_checks p m.state packet))) refl
    where
      by : (v : Verdict) → verdict_of (first_fault (command_checks p m.state packet)) ≡ v
          → judgement_of r (decided p m.image m.state packet v).reply ≡ told_as v
      by (Ok tt) e =
          let granted = granted_clear (first_fault (command_checks p m.state packet)) e in
          ap (λ (cmd : Com). judgement_of r (grant_of p m.image m.state packet cmd).reply) (packet_com r bytes)
          ∙ grant_passes p m r bytes s k granted
      by (Err reason) e = refusal_judged r (code_at packet) (packet_code r bytes) reason

  -- a command, to a device that awaits one
  awaited_agrees : kind_for r ≡ CommandPacket → (stage : Stage) → awaits_of stage ≡ Packet CommandPacket
      → judgement_of r (answer_of p m.image m.state stage packet).reply ≡ told_as (verdict_in p m.image m.state stage packet)
  awaited_agrees k (Setting u) a = impossible (cc)
  awaited_agrees k Authentication a = command_agrees k
  awaited_agrees k Command a = command_agrees k
  awaited_agrees k (Writing range) a = impossible (cc)
  awaited_agrees k (Reading range) a = impossible (cc)

-- data, to a device that writes
data_agrees : (p : Profile) (image : List ℕ) (st : State) (range : Range) (q : List ℕ)
    → judgement_of WriteData (answer_write p image st range q).reply ≡ told_as (verdict_of (first_fault (write_checks (areas_of p) image range q)))
unfolding answer_write write_decided
data_agrees p image st range q = by (verdict_of (first_fault (write_checks (areas_of p) image range q)))
  where
    by : (v : Verdict) → judgement_of WriteData (write_decided st range q v).reply ≡ told_as v
    by (Ok tt) = status_passes WriteData 0x13 refl refl
    by (Err reason) = refusal_judged WriteData 0x13 refl reason

-- a next packet, to a device that reads
next_agrees : (p : Profile) (m : Machine) (left : ℕ) (bytes : List ℕ) → Sent p m (Next left) bytes → (i : InRead m.state.stage left)
    → (q : List ℕ) → judgement_of (Next left) (answer_next p m.image m.state i.range q).reply ≡ told_as (verdict_of (first_fault (next_checks q)))
unfolding answer_next next_decided
next_agrees p m left bytes s i q = by (verdict_of (first_fault (next_checks q)))
  where
    some : left ≡ 0 → ⊥
    some = eqb-false left 0 (buildable_left (Next left) (length bytes) s.buildable)

    by : (v : Verdict) → judgement_of (Next left) (next_decided p m.image m.state i.range v).reply ≡ told_as v
    by (Ok tt) =
        read_passes (Next left) i.range m.image p (ap read_due (sym i.amount)) refl (omega (arith, some, i.amount))
        (read_whole p s.profile m s.fits s.image i.range i.is) m.state
    by (Err reason) = refusal_judged (Next left) 0x15 refl reason

-- what the judge makes of a device's answer is what the device's checks say of the packet
answer_agrees : (p : Profile) (m : Machine) (r : Request) (bytes : List ℕ) → Sent p m r bytes
    → judgement_of r (answer_of p m.image m.state m.state.stage (packet_for r bytes)).reply
    ≡ told_as (verdict_in p m.image m.state m.state.stage (packet_for r bytes))
answer_agrees p m Inquiry bytes s = awaited_agrees p m Inquiry bytes s refl m.state.stage s.step
answer_agrees p m (Erase sad ead) bytes s = awaited_agrees p m (Erase sad ead) bytes s refl m.state.stage s.step
answer_agrees p m (Write sad ead) bytes s = awaited_agrees p m (Write sad ead) bytes s refl m.state.stage s.step
answer_agrees p m (Read sad ead) bytes s = awaited_agrees p m (Read sad ead) bytes s refl m.state.stage s.step
answer_agrees p m Authenticate bytes s = awaited_agrees p m Authenticate bytes s refl m.state.stage s.step
answer_agrees p m (Baud brt) bytes s = awaited_agrees p m (Baud brt) bytes s refl m.state.stage s.step
answer_agrees p m Signature bytes s = awaited_agrees p m Signature bytes s refl m.state.stage s.step
answer_agrees p m (Area n) bytes s = awaited_agrees p m (Area n) bytes s refl m.state.stage s.step
answer_agrees p m WriteData bytes s =
    subst
    (λ (stage : Stage). judgement_of WriteData (answer_of p m.image m.state stage (packet_for WriteData bytes)).reply
    ≡ told_as (verdict_in p m.image m.state stage (packet_for WriteData bytes)))
    (sym s.step.is) (data_agrees p m.image m.state s.step.range (packet_for WriteData bytes))
answer_agrees p m (Next left) bytes s =
    subst
    (λ (stage : Stage). judgement_of (Next left) (answer_of p m.image m.state stage (packet_for (Next left) bytes)).reply
    ≡ told_as (verdict_in p m.image m.state stage (packet_for (Next left) bytes)))
    (sym s.step.is) (next_agrees p m left bytes s s.step (packet_for (Next left) bytes))

-- a reply packet is whole
reply_complete : {reply : List ℕ} → IsPacket reply → progress_of DataPacket reply ≡ Complete
unfolding permitted
reply_complete {reply} k =
    let n : ℕ = length k.contents in
    let permits : permitted DataPacket n ≡ true = simp (le-leb 1 n k.least, le-leb n 1025 k.most) in
    ap (progress_of DataPacket) k.is ∙ frame_complete DataPacket k.contents permits

-- a request that was sent
module _ (p : Profile) (m : Machine) (r : Request) (bytes : List ℕ) (s : Sent p m r bytes) where
  abbrev q : List ℕ
  q = packet_for r bytes

  -- its kind is awaited
  awaited : awaits_of m.state.stage ≡ Packet (kind_for r)
  awaited = step_awaits r m.state.stage s.step

  -- and its packet is whole
  complete : progress_of (kind_for r) q ≡ Complete
  complete = (packet_whole r bytes s.buildable).0

  -- it is delivered whole
  pub sent_as : sending p m r bytes ≡ whole_of p m q (length q)
  sent_as = whole_delivered p (kind_for r) m awaited s.idle (s.fits.count ∙ ap length s.idle) q complete

  -- and answered by one packet
  reply_whole : progress_of DataPacket (sending p m r bytes).reply ≡ Complete
  reply_whole = ap (λ (d : Delivery). progress_of DataPacket d.reply) sent_as ∙ reply_complete (whole_answered p (kind_for r) m awaited q complete)

  -- so they agree
  pub agrees : Agrees p m r bytes
  agrees =
      record {
        consumed = ap (λ (d : Delivery). d.consumed) sent_as;
        machine = ap (λ (d : Delivery). d.machine) sent_as;
        taken = whole_taken r (sending p m r bytes).reply reply_whole;
        judged = ap (λ (d : Delivery). judgement_of r d.reply) sent_as ∙ answer_agrees p m r bytes s;
      }
