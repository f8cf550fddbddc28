-- What replies are: each reply packet answers one complete request or one early refusal, and none is longer than 1,030 bytes. Assumes nothing.
use mathlib.Core.Bool.{Bool, true, false, cond}
use mathlib.Core.List.{List, [], ◌∷◌}
use mathlib.Core.Logic.{◌⊎◌, inl, inr, ⊎_elim, ◌↔◌}
use mathlib.Core.Path.{◌≡◌, refl, ap, subst, ◌∙◌}
use Prim.Native.Nat.{ℕ, ◌+◌, ◌≤◌}
use native.Mathlib.Omega.{arith}
use lib.ListN.{length, get_or}
use lib.Dec.{eqb}
use Rattle.numbers.specs.Bytes.{bytes_of}
use Rattle.verdict.specs.declared.Reason.TheVariants.{LengthRefused}
use Rattle.verdict.specs.Check.{first_fault, verdict_of, Verdict}
use Rattle.profile.specs.declared.Profile.{Profile}
use Rattle.profile.specs.Areas.{areas_of, no_area}
use Rattle.packet.specs.declared.Kind.TheVariants.{Data}
use Rattle.packet.specs.declared.Progress.{Progress}
use Rattle.packet.specs.declared.Progress.TheVariants.{Astray, Partial, Unfit, Complete, Excess}
use Rattle.packet.specs.Packet.{progress_of, is_complete, frame}
use Rattle.packet.proofs.Laws.{impossible}
use Rattle.packet.proofs.Frames.{frame_length}
use Rattle.flash.specs.declared.Act.TheVariants.{Nothing, EraseAll}
use Rattle.flash.specs.Effects.{fetched}
use Rattle.flash.proofs.ByAddress.{fetched_most}
use Rattle.id_code.specs.Identity.{total_erase}
use Rattle.packet_messages.specs.Messages.{area_message, signature_message}
use Rattle.packet_reply.specs.Reply.{status_reply, data_reply, status_contents}
use Rattle.packet_fields.specs.declared.Com.{Com}
use Rattle.packet_fields.specs.declared.Com.TheVariants.{Inquiry, Erase, Write, Read, Authenticate, Baud, Signature, Area as AreaCommand, Unknown}
use Rattle.state.specs.declared.Pulse.{Pulse}
use Rattle.state.specs.declared.Pulse.TheVariants.{Zero, One, Acknowledged}
use Rattle.state.specs.declared.Range.{Range}
use Rattle.state.specs.declared.Stage.{Stage}
use Rattle.state.specs.declared.Stage.TheVariants.{Setting, Authentication, Command, Writing, Reading}
use Rattle.state.specs.declared.State.{State}
use Rattle.packet_fields.specs.Fields.{com_of, code_at, info_of, sad_of, ead_of, area_number_of}
use Rattle.check_command.specs.Commands.{command_checks}
use Rattle.state.specs.declared.Awaited.{Awaited}
use Rattle.state.specs.declared.Awaited.TheVariants.{WakeUp, Packet}
use Rattle.state.specs.Awaits.{awaits_of}
use Rattle.state.specs.State.{fresh_state}
use Rattle.check_transfer.specs.Transfer.{write_checks, next_checks}
use Rattle.answer.specs.Answer.{moved}
use Rattle.answer_command.specs.Grants.{told, span_of, entered, grant_of, decided, answer_command}
use Rattle.answer_transfer.specs.Transfers.{read_count, read_packet, write_decided, answer_write, next_decided, answer_next}
use Rattle.answer_waking.specs.Wake.{awake, woken, goes, wake_of}
use Rattle.device_steps.specs.Step.{Machine, early_of, answer_of, heard, step_in, step_of}
use Rattle.device_steps.specs.Feed.{Delivery, feed_of}
use Rattle.device_steps.specs.Records.{is_unfit, progress_in, heard_with, completes, refuses, Brings}
use Rattle.std.specs.Prelude.{Ok, Err}
use Rattle.device_steps.proofs.Delivered.{by_reply, feed_none, FromByte, reply_is}

-- a reply packet: a data packet of a permitted length
pub record IsPacket (reply : List ℕ) : Type 0 where
  pub contents : List ℕ
  pub is : reply ≡ frame Data contents
  pub least : 1 ≤ length contents
  pub most : length contents ≤ 1025

pub status_packet : (request : ℕ) (v : Verdict) → IsPacket (status_reply request v)
status_packet request v = record { contents = status_contents request v; is = refl; least = omega arith; most = omega arith }

pub data_packet : (res : ℕ) (bytes : List ℕ) → length bytes ≤ 1024 → IsPacket (data_reply res bytes)
data_packet res bytes h = record { contents = res ∷ bytes; is = refl; least = omega arith; most = omega arith }

module _ {reply : List ℕ} (r : IsPacket reply) where
  pub packet_starts : get_or reply 0 0 ≡ 0x81
  unfolding frame
  packet_starts = ap (λ (l : List ℕ). get_or l 0 0) r.is

  packet_counts : length reply ≡ length r.contents + 5
  packet_counts = ap length r.is ∙ frame_length Data r.contents

  pub packet_least : 6 ≤ length reply
  packet_least = omega (arith, packet_counts, r.least)

  pub packet_most : length reply ≤ 1030
  packet_most = omega (arith, packet_counts, r.most)

-- every answer to a complete packet is a reply packet
module _ (p : Profile) (image : List ℕ) (st : State) where
  read_packet_lem : (r : Range) → IsPacket (read_packet p image st r).reply
  unfolding read_packet
  read_packet_lem r =
      let h : length (fetched (areas_of p) r.next (read_count r) image) ≤ read_count r = fetched_most (areas_of p) r.next (read_count r) image in
      data_packet 0x15 (fetched (areas_of p) r.next (read_count r) image) (omega arith)

  entered_packet : (q : List ℕ) → IsPacket (entered p st q).reply
  unfolding entered
  entered_packet q = by_test (total_erase st.id (info_of q))
    where
      by_test : (t : Bool) → IsPacket (cond t (told q (Ok tt) EraseAll (fresh_state p)) (told q (Ok tt) Nothing (moved Command st))).reply
      by_test true = status_packet (code_at q) (Ok tt)
      by_test false = status_packet (code_at q) (Ok tt)

  grant_packet : (q : List ℕ) (cmd : Com) → IsPacket (grant_of p image st q cmd).reply
  unfolding grant_of signature_message area_message bytes_of
  grant_packet q Inquiry = status_packet (code_at q) (Ok tt)
  grant_packet q Erase = status_packet (code_at q) (Ok tt)
  grant_packet q Write = status_packet (code_at q) (Ok tt)
  grant_packet q Read = read_packet_lem (span_of (sad_of q) (ead_of q))
  grant_packet q Authenticate = entered_packet q
  grant_packet q Baud = status_packet (code_at q) (Ok tt)
  grant_packet q Signature = data_packet 0x3A (signature_message p) (omega arith)
  grant_packet q AreaCommand = data_packet 0x3B (area_message (get_or p.areas (area_number_of q) no_area)) (omega arith)
  grant_packet q Unknown = status_packet (code_at q) (Ok tt)

  pub command_packet : (q : List ℕ) → IsPacket (answer_command p image st q).reply
  unfolding answer_command decided
  command_packet q = by_verdict (verdict_of (first_fault (command_checks p st q)))
    where
      by_verdict : (v : Verdict) → IsPacket (decided p image st q v).reply
      by_verdict (Ok tt) = grant_packet q (com_of (code_at q))
      by_verdict (Err reason) = status_packet (code_at q) (Err reason)

  pub write_packet : (r : Range) (q : List ℕ) → IsPacket (answer_write p image st r q).reply
  unfolding answer_write write_decided
  write_packet r q = by_verdict (verdict_of (first_fault (write_checks (areas_of p) image r q)))
    where
      by_verdict : (v : Verdict) → IsPacket (write_decided st r q v).reply
      by_verdict (Ok tt) = status_packet 0x13 (Ok tt)
      by_verdict (Err reason) = status_packet 0x13 (Err reason)

  pub next_packet : (r : Range) (q : List ℕ) → IsPacket (answer_next p image st r q).reply
  unfolding answer_next next_decided
  next_packet r q = by_verdict (verdict_of (first_fault (next_checks q)))
    where
      by_verdict : (v : Verdict) → IsPacket (next_decided p image st r v).reply
      by_verdict (Ok tt) = read_packet_lem r
      by_verdict (Err reason) = status_packet 0x15 (Err reason)

  -- whatever the stage
  answer_packet : (s : Stage) (q : List ℕ) → IsPacket (answer_of p image st s q).reply
  answer_packet (Setting u) q = command_packet q
  answer_packet Authentication q = command_packet q
  answer_packet Command q = command_packet q
  answer_packet (Writing r) q = write_packet r q
  answer_packet (Reading r) q = next_packet r q

-- waking up is answered by nothing, 00h or C3h
abbrev pub WakeReply : List ℕ → Type 0
WakeReply r = (r ≡ []) ⊎ ((r ≡ 0x00 ∷ []) ⊎ (r ≡ 0xC3 ∷ []))

-- what is answered where no request is complete
abbrev pub Unasked : Awaited → List ℕ → Type 0
Unasked (WakeUp u) r = WakeReply r
Unasked (Packet kind) r = r ≡ []

pub wake_reply : (p : Profile) (image : List ℕ) (st : State) (u : Pulse) (b : ℕ) → WakeReply (wake_of p image st u b).reply
unfolding wake_of
wake_reply p image st Zero b = by_test (eqb b 0x00)
  where
    by_test : (t : Bool) → WakeReply (cond t (goes st One []) (goes st Zero [])).reply
    by_test true = inl refl
    by_test false = inl refl
wake_reply p image st One b = by_test (eqb b 0x00)
  where
    by_test : (t : Bool) → WakeReply (cond t (goes st Acknowledged (0x00 ∷ [])) (goes st Zero [])).reply
    by_test true = inr (inl refl)
    by_test false = inl refl
wake_reply p image st Acknowledged b = by_tests (eqb b 0x55) (eqb b 0x00)
  where
    by_tests : (s t : Bool)
        → WakeReply
        (cond s (woken (awake p image st) (0xC3 ∷ [])) (cond t (goes st Acknowledged []) (goes st Zero []))).reply
    by_tests true t = inr (inr refl)
    by_tests false true = inl refl
    by_tests false false = inl refl

pub unasked_few : (a : Awaited) (r : List ℕ) → Unasked a r → length r ≤ 1
unasked_few (WakeUp u) r w = ⊎_elim (λ e. rw e (omega arith)) (λ x. ⊎_elim (λ e. rw e (omega arith)) (λ e. rw e (omega arith)) x) w
unasked_few (Packet kind) r e = rw e (omega arith)

-- a byte where a packet is awaited
module _ (p : Profile) (m : Machine) (q : List ℕ) where
  heard_unasked : (x : Progress) → is_complete x ≡ false → is_unfit x ≡ false → (heard p m q x).reply ≡ []
  unfolding heard
  heard_unasked Astray c u = refl
  heard_unasked Partial c u = refl
  heard_unasked Unfit c u = impossible (cc)
  heard_unasked Complete c u = impossible (cc)
  heard_unasked Excess c u = refl

  heard_packet : (x : Progress) → (is_complete x ≡ true) ⊎ (is_unfit x ≡ true) → IsPacket (heard p m q x).reply
  unfolding heard
  heard_packet Astray h = ⊎_elim (λ e. impossible (cc)) (λ e. impossible (cc)) h
  heard_packet Partial h = ⊎_elim (λ e. impossible (cc)) (λ e. impossible (cc)) h
  heard_packet Unfit h = status_packet (early_of m.state.stage).0 (Err LengthRefused)
  heard_packet Complete h = answer_packet p m.image m.state m.state.stage q
  heard_packet Excess h = ⊎_elim (λ e. impossible (cc)) (λ e. impossible (cc)) h

-- a byte brings a request, or completes none and is refused none
module _ (m : Machine) (b : ℕ) where
  pub unbrought : (Brings m b → ⊥) → (completes m b ≡ false) × (refuses m b ≡ false)
  unbrought n = (by (completes m b) (λ e. n (inl e)), by (refuses m b) (λ e. n (inr e)))
    where
      by : (t : Bool) → (t ≡ true → ⊥) → t ≡ false
      by true h = absurd (h refl)
      by false h = refl

  pub brings_or : Brings m b ⊎ (Brings m b → ⊥)
  brings_or = by (completes m b) (refuses m b) refl refl
    where
      by : (s t : Bool) → completes m b ≡ s → refuses m b ≡ t → Brings m b ⊎ (Brings m b → ⊥)
      by true t c f = inl (inl c)
      by false true c f = inl (inr f)
      by false false c f = inr (λ h. ⊎_elim (λ e. impossible (cc)) (λ e. impossible (cc)) h)

module _ (p : Profile) (m : Machine) (b : ℕ) where
  abbrev q : List ℕ
  q = heard_with m b

  unasked_in : (a : Awaited) → is_complete (progress_in a q) ≡ false → is_unfit (progress_in a q) ≡ false → Unasked a (step_in p m a b).reply
  unfolding step_in progress_in
  unasked_in (WakeUp u) c f = wake_reply p m.image m.state u b
  unasked_in (Packet kind) c f = heard_unasked p m q (progress_of kind q) c f

  packet_in : (a : Awaited) → (is_complete (progress_in a q) ≡ true) ⊎ (is_unfit (progress_in a q) ≡ true) → IsPacket (step_in p m a b).reply
  unfolding step_in progress_in
  packet_in (WakeUp u) h = ⊎_elim (λ e. impossible (cc)) (λ e. impossible (cc)) h
  packet_in (Packet kind) h = heard_packet p m q (progress_of kind q) h

  -- a byte that completes no request and is refused none gets no reply packet
  pub quiet_step : completes m b ≡ false → refuses m b ≡ false → Unasked (awaits_of m.state.stage) (step_of p m b).reply
  unfolding step_of completes refuses
  quiet_step c f = unasked_in (awaits_of m.state.stage) c f

  -- a complete request and an early refusal each get one
  pub packet_step : Brings m b → IsPacket (step_of p m b).reply
  unfolding step_of completes refuses
  packet_step h = packet_in (awaits_of m.state.stage) h

  by_tests : (s t : Bool) → completes m b ≡ s → refuses m b ≡ t
      → Brings m b ⊎ (length (step_of p m b).reply ≤ 1)
  by_tests true t c f = inl (inl c)
  by_tests false true c f = inl (inr f)
  by_tests false false c f = inr (unasked_few (awaits_of m.state.stage) (step_of p m b).reply (quiet_step c f))

  asked_or_few : Brings m b ⊎ (length (step_of p m b).reply ≤ 1)
  asked_or_few = by_tests (completes m b) (refuses m b) refl refl

  -- so a reply packet answers a complete request or an early refusal
  pub packet_exactly : IsPacket (step_of p m b).reply ↔ Brings m b
  packet_exactly = (λ k. ⊎_elim (λ h. h) (λ few. let least : 6 ≤ length (step_of p m b).reply = packet_least k in absurd (omega arith)) asked_or_few, packet_step)

  -- the room for a reply
  pub short : length (step_of p m b).reply ≤ 1030
  short = ⊎_elim (λ h. packet_most (packet_step h)) (λ few. omega arith) asked_or_few

not_both : (x : Progress) → is_complete x ≡ true → is_unfit x ≡ true → ⊥
not_both Astray c f = impossible (cc)
not_both Partial c f = impossible (cc)
not_both Unfit c f = impossible (cc)
not_both Complete c f = impossible (cc)
not_both Excess c f = impossible (cc)

-- of one of them, not of both
pub one_asked : (m : Machine) (b : ℕ) → completes m b ≡ true → refuses m b ≡ true → ⊥
unfolding completes refuses
one_asked m b c f = not_both (progress_in (awaits_of m.state.stage) (heard_with m b)) c f

pub feed_short : (p : Profile) (m : Machine) (bs : List ℕ) → length (feed_of p m bs).reply ≤ 1030
feed_short p m [] = rw feed_none (omega arith)
feed_short p m (b ∷ bs) =
    by_reply p m b bs (λ (d : Delivery). length d.reply ≤ 1030) (λ quiet. feed_short p (step_of p m b).machine bs) (λ answered. short p m b)

-- so a packet that a delivery is answered by answers the byte behind which it stopped
pub feed_asked : (p : Profile) (m : Machine) (bs : List ℕ) (f : FromByte p m bs) → IsPacket (feed_of p m bs).reply
    → Brings (feed_of p m f.before).machine f.byte
feed_asked p m bs f k =
    (packet_exactly p (feed_of p m f.before).machine f.byte).0 (subst IsPacket (ap (λ (d : Delivery). d.reply) (reply_is p m bs f)) k)
