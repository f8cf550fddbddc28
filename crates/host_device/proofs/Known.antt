-- What a judge knows from a signature and from an area that passed: the device's own SCI, and that area's own fields. Assumes nothing.
use mathlib.Core.Bool.{true}
use mathlib.Core.List.{List, [], ◌∷◌}
use mathlib.Core.Path.{◌≡◌, refl, sym, ap, subst, ◌∙◌}
use Prim.Native.Nat.{ℕ, ◌-◌, ◌<◌, ◌≤◌}
use native.Mathlib.Omega.{arith}
use lib.ListN.{length, take, drop, get_or}
use lib.Seq.{length-take-le, take_all, take-take, take_at, get_or-take, ext_get_or}
use Rattle.numbers.specs.Bytes.{bytes_of}
use Rattle.verdict.specs.Check.{first_fault, verdict_of}
use Rattle.profile.specs.declared.Area.{Area as AreaFields}
use Rattle.profile.specs.declared.Profile.{Profile}
use Rattle.profile.specs.Areas.{no_area}
use Rattle.profile_bytes.specs.Profile.{area_at}
use Rattle.profile_bytes.specs.Formed.{FormedArea}
use Rattle.packet.specs.declared.Kind.TheVariants.{Command as CommandPacket, Data as DataPacket}
use Rattle.packet.specs.Packet.{permitted, length_of, frame}
use Rattle.packet.proofs.Laws.{impossible}
use Rattle.packet.proofs.Frames.{frame_length, frame_says, frame_complete}
use Rattle.packet_fields.specs.Fields.{four_at}
use Rattle.packet_fields.proofs.FieldLaws.{four_back}
use Rattle.packet_messages.specs.Messages.{area_message, signature_message}
use Rattle.packet_reply.specs.Reply.{data_reply}
use Rattle.state.specs.declared.Awaited.TheVariants.{Packet}
use Rattle.state.specs.declared.Stage.{Stage}
use Rattle.state.specs.declared.Stage.TheVariants.{Setting, Authentication, Command, Writing, Reading}
use Rattle.state.specs.Awaits.{awaits_of}
use Rattle.check_command.specs.Commands.{command_checks}
use Rattle.answer.specs.Answer.{Answer}
use Rattle.answer_command.specs.Grants.{grant_of, answer_command}
use Rattle.answer_command.proofs.Granting.{granted_as}
use Rattle.device_steps.specs.Step.{Machine, answer_of}
use Rattle.device_steps.specs.Feed.{Delivery}
use Rattle.host_request.specs.declared.Request.{Request}
use Rattle.host_request.specs.declared.Request.TheVariants.{Signature, Area}
use Rattle.host_request.specs.Request.{com_for, kind_for, packet_for}
use Rattle.host_request.proofs.Packets.{packet_com, packet_area}
use Rattle.host_judge.specs.declared.Judge.{Judge}
use Rattle.host_judge.specs.declared.Judgement.TheVariants.{Passed}
use Rattle.host_judge.specs.Reply.{from_mark, judgement_of}
use Rattle.host_judge.specs.Judge.{fresh_judge, hearing_of, sci_by, area_by, sci_in, area_in}
use Rattle.host_judge.proofs.Keeping.{length_bytes, data_in, length_bytes_lem}
use Rattle.host_judge.proofs.Tracking.{Tracks, tracks_none}
use Rattle.host_judge.proofs.Verdicts.{request_kept, tracks_taken, judge_says}
use Rattle.host_device.specs.Agreement.{Sent, verdict_in, sending}
use Rattle.host_device.proofs.Replies.{few_data, frame_mark}
use Rattle.host_device.proofs.Taken.{whole_taken}
use Rattle.host_device.proofs.Agreement.{step_awaits, sent_as}
use Rattle.std.specs.Prelude.{Some, Ok}
use Rattle.host_device.proofs.Telling.{passed_granted}

-- a data reply of at most seventeen data bytes
module _ (r : Request) (res : ℕ) (bytes : List ℕ) (few : length bytes ≤ 17) where
  abbrev reply : List ℕ
  reply = data_reply res bytes

  abbrev judge : Judge
  judge = (hearing_of (fresh_judge r) reply).judge

  -- as many are permitted
  permits : permitted DataPacket (length (res ∷ bytes)) ≡ true
  permits = few_data (length bytes) (omega arith)

  -- the judge tracks all of it
  reply_tracked : Tracks r reply judge
  reply_tracked =
      let count : ℕ = (hearing_of (fresh_judge r) reply).count in
      let all : count ≡ length reply = whole_taken r reply (frame_complete DataPacket (res ∷ bytes) permits) in
      let same : from_mark (take count reply) ≡ reply = ap from_mark (take_all count reply (omega arith)) ∙ frame_mark (res ∷ bytes) in
      subst (λ (q : List ℕ). Tracks r q judge) same (tracks_taken r [] (fresh_judge r) (tracks_none r) reply)

  -- its data is what it was built from
  reply_data : data_in reply ≡ bytes
  unfolding frame bytes_of
  reply_data =
      let says : length_of reply ≡ length_bytes reply = length_bytes_lem reply (omega (arith, frame_length DataPacket (res ∷ bytes))) in
      let n : length_bytes reply - 1 ≡ length bytes = omega (arith, frame_says DataPacket (res ∷ bytes) permits) in
      ap (λ (k : ℕ). take k (drop 4 reply)) n ∙ take_at bytes _ (length bytes) refl

  -- it has room for seventeen bytes
  first_room : length judge.reply.first ≡ 17
  first_room = reply_tracked.keeps.room

  -- and keeps all of its data
  pub data_kept : take (length bytes) judge.reply.first ≡ bytes
  data_kept =
      let n : length (take (length bytes) judge.reply.first) ≡ length bytes =
      length-take-le (length bytes) judge.reply.first (omega (arith, first_room)) in
      ext_get_or 0 (take (length bytes) judge.reply.first) bytes n
      (λ i h.
      get_or-take (length bytes) judge.reply.first i 0 (omega arith)
      ∙ reply_tracked.keeps.first i (omega arith)
      ∙ ap (λ (l : List ℕ). get_or l i 0) reply_data)

-- a command that passed was granted, so its reply is what its grant says
module _ (p : Profile) (m : Machine) (r : Request) (bytes : List ℕ) (s : Sent p m r bytes) (command : kind_for r ≡ CommandPacket) where
  abbrev q : List ℕ
  q = packet_for r bytes

  -- by the checks of a command
  grant_here : verdict_of (first_fault (command_checks p m.state q)) ≡ Ok tt
      → (answer_command p m.image m.state q).reply ≡ (grant_of p m.image m.state q (com_for r)).reply
  grant_here v = ap (λ (x : Answer). x.reply) (sym (granted_as p m.image m.state q (com_for r) (sym (packet_com r bytes)) v))

  -- in either stage that awaits a command
  grant_told : (stage : Stage) → awaits_of stage ≡ Packet (kind_for r) → verdict_in p m.image m.state stage q ≡ Ok tt
      → (answer_of p m.image m.state stage q).reply ≡ (grant_of p m.image m.state q (com_for r)).reply
  grant_told (Setting u) a v = impossible (cc)
  grant_told Authentication a v = grant_here v
  grant_told Command a v = grant_here v
  grant_told (Writing range) a v = impossible (cc)
  grant_told (Reading range) a v = impossible (cc)

  -- the reply
  passed_reply : judgement_of r (sending p m r bytes).reply ≡ Passed
      → (sending p m r bytes).reply ≡ (grant_of p m.image m.state q (com_for r)).reply
  passed_reply e =
      ap (λ (d : Delivery). d.reply) (sent_as p m r bytes s)
      ∙ grant_told m.state.stage (step_awaits r m.state.stage s.step) ((passed_granted p m r bytes s).0 e)

-- the judge of a request whose reply passed
module _ (r : Request) (reply : List ℕ) (passed : judgement_of r reply ≡ Passed) where
  abbrev after : Judge
  after = (hearing_of (fresh_judge r) reply).judge

  -- it knows SCI by its request and by what it kept
  pub sci_of : sci_in after ≡ sci_by r after.reply.first
  sci_of = rw (judge_says r reply, passed, request_kept (fresh_judge r) reply) refl

  -- and so an area's fields
  pub area_of : area_in after ≡ area_by r after.reply.first
  area_of = rw (judge_says r reply, passed, request_kept (fresh_judge r) reply) refl

-- a signature has no more data than is kept
signature_few : (p : Profile) → length (signature_message p) ≤ 17
unfolding signature_message bytes_of
signature_few p = omega arith

-- what is kept of a signature starts with SCI
signature_read : (p : Profile) → p.sci < 4294967296
    → four_at (hearing_of (fresh_judge Signature) (data_reply 0x3A (signature_message p))).judge.reply.first 0 ≡ p.sci
unfolding signature_message bytes_of
signature_read p below =
    let first : List ℕ = (hearing_of (fresh_judge Signature) (data_reply 0x3A (signature_message p))).judge.reply.first in
    let room : length first ≡ 17 = first_room Signature 0x3A (signature_message p) (signature_few p) in
    let front : take 4 first ≡ bytes_of 4 p.sci =
    sym (take-take 4 12 first (omega arith)) ∙ ap (take 4) (data_kept Signature 0x3A (signature_message p) (signature_few p)) in
    four_back p.sci 0 first (omega arith) below front

-- a signature that passed tells the device's SCI
pub sci_known : (p : Profile) (m : Machine) (bytes : List ℕ) → Sent p m Signature bytes → p.sci < 4294967296
    → judgement_of Signature (sending p m Signature bytes).reply ≡ Passed
    → sci_in (hearing_of (fresh_judge Signature) (sending p m Signature bytes).reply).judge ≡ Some p.sci
unfolding grant_of
sci_known p m bytes s below passed =
    let e : (sending p m Signature bytes).reply ≡ data_reply 0x3A (signature_message p) = passed_reply p m Signature bytes s refl passed in
    sci_of Signature (sending p m Signature bytes).reply passed
    ∙ ap (λ (l : List ℕ). Some (four_at (hearing_of (fresh_judge Signature) l).judge.reply.first 0)) e
    ∙ ap Some (signature_read p below)

-- nor has an area
area_few : (a : AreaFields) → length (area_message a) ≤ 17
unfolding area_message bytes_of
area_few a = omega arith

-- an area's bytes read back
message_back : (a : AreaFields) → FormedArea a → area_at (area_message a) 0 ≡ a
unfolding area_message bytes_of
message_back a f =
    let bs : List ℕ = area_message a in
    let sad = four_back a.sad 1 bs (omega arith) f.sad refl in
    let ead = four_back a.ead 5 bs (omega arith) f.ead refl in
    let eau = four_back a.eau 9 bs (omega arith) f.eau refl in
    let wau = four_back a.wau 13 bs (omega arith) f.wau refl in
    rw (sad, ead, eau, wau) refl

-- what is kept of an area is all of it
area_read : (n : ℕ) (a : AreaFields) → (hearing_of (fresh_judge (Area n)) (data_reply 0x3B (area_message a))).judge.reply.first ≡ area_message a
unfolding area_message bytes_of
area_read n a =
    let first : List ℕ = (hearing_of (fresh_judge (Area n)) (data_reply 0x3B (area_message a))).judge.reply.first in
    let room : length first ≡ 17 = first_room (Area n) 0x3B (area_message a) (area_few a) in
    sym (take_all 17 first (omega arith)) ∙ data_kept (Area n) 0x3B (area_message a) (area_few a)

-- an area that passed tells the fields of the device's area of that number
pub area_known : (p : Profile) (m : Machine) (n : ℕ) (bytes : List ℕ) → Sent p m (Area n) bytes → FormedArea (get_or p.areas n no_area)
    → judgement_of (Area n) (sending p m (Area n) bytes).reply ≡ Passed
    → area_in (hearing_of (fresh_judge (Area n)) (sending p m (Area n) bytes).reply).judge ≡ Some (get_or p.areas n no_area)
unfolding grant_of
area_known p m n bytes s formed passed =
    let a : AreaFields = get_or p.areas n no_area in
    let e : (sending p m (Area n) bytes).reply ≡ data_reply 0x3B (area_message a) =
    passed_reply p m (Area n) bytes s refl passed
    ∙ ap (λ (k : ℕ). data_reply 0x3B (area_message (get_or p.areas k no_area))) (packet_area (Area n) bytes n refl) in
    area_of (Area n) (sending p m (Area n) bytes).reply passed
    ∙ ap (λ (l : List ℕ). Some (area_at (hearing_of (fresh_judge (Area n)) l).judge.reply.first 0)) e
    ∙ ap (λ (l : List ℕ). Some (area_at l 0)) (area_read n a)
    ∙ ap Some (message_back a formed)
