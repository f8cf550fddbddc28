-- What the judge makes of a device's replies: a grant passes, and a refusal is told with exactly its code. Assumes nothing.
use mathlib.Core.Bool.{Bool, true, false, ◌&&◌}
use mathlib.Core.List.{List, [], ◌∷◌}
use mathlib.Core.Path.{◌≡◌, refl, ap, ◌∙◌}
use Prim.Native.Nat.{ℕ, suc, ◌+◌, ◌<◌, ◌≤◌, min}
use native.Mathlib.Omega.{arith}
use lib.ListN.{length, get_or}
use lib.Seq.{take_all}
use lib.Dec.{eqb}
use borrow.Author.Tests.{le-leb, lt-ltb, eq-eqb, ne_eqb}
use Rattle.numbers.specs.Bytes.{bytes_of}
use Rattle.verdict.specs.declared.Reason.{Reason}
use Rattle.verdict.specs.Code.{code_of}
use Rattle.verdict.proofs.Codes.{code_positive}
use Rattle.packet.specs.declared.Kind.TheVariants.{Data as DataPacket}
use Rattle.packet.specs.Packet.{permitted, length_of, frame}
use Rattle.packet.proofs.Frames.{frame_length, frame_says, frame_complete, frame_ends_well}
use Rattle.packet_fields.specs.Fields.{code_at}
use Rattle.packet_reply.specs.Reply.{marked, data_reply, status_reply}
use Rattle.host_request.specs.declared.Request.{Request}
use Rattle.host_request.specs.declared.Request.TheVariants.{Inquiry, Erase, Write, Read, Authenticate, Baud, Signature, Area, WriteData, Next}
use Rattle.host_request.specs.Request.{number_for}
use Rattle.host_judge.specs.declared.Due.{Due}
use Rattle.host_judge.specs.declared.Due.TheVariants.{Status, Data, Nothing}
use Rattle.host_judge.specs.declared.Judgement.TheVariants.{Passed, Refused as RefusedWith}
use Rattle.std.specs.Prelude.{Ok, Err}
use Rattle.host_judge.specs.Reply.{read_due, due_for, grants, denies, judged_by, from_mark, first_packet, packet_judged, judged_at, judgement_of}

-- a data packet
module _ (contents : List ℕ) where
  abbrev q : List ℕ
  q = frame DataPacket contents

  -- it starts with 81h, so nothing of it is skipped
  pub frame_mark : from_mark q ≡ q
  unfolding frame from_mark
  frame_mark = refl

  -- of a permitted length
  module _ (permits : permitted DataPacket (length contents) ≡ true) where
    -- it is all of the first packet
    pub frame_first : first_packet q ≡ q
    frame_first =
        let says : length_of q ≡ length contents = frame_says DataPacket contents permits in
        take_all (length_of q + 5) q (omega (arith, frame_length DataPacket contents))

    -- what is in it decides: its length, RES, and the byte behind RES
    pub frame_judged : (r : Request) → judgement_of r q ≡ judged_by r (length contents) (code_at q) (get_or q 4 0)
    unfolding judgement_of judged_at packet_judged
    frame_judged r =
        let whole = frame_complete DataPacket contents permits in
        let well = frame_ends_well DataPacket contents in
        rw (frame_mark, whole, frame_first, well, frame_says DataPacket contents permits) refl

-- as many data bytes as a packet may have
pub few_data : (n : ℕ) → n ≤ 1024 → permitted DataPacket (suc n) ≡ true
unfolding permitted
few_data n h = simp (le-leb 1 (suc n) (omega arith), le-leb (suc n) 1025 (omega arith))

-- a data reply, with one data byte at least
pub data_judged : (r : Request) (res : ℕ) (bytes : List ℕ) → 1 ≤ length bytes → length bytes ≤ 1024
    → judgement_of r (data_reply res bytes) ≡ judged_by r (length bytes + 1) res (get_or bytes 0 0)
unfolding frame bytes_of
data_judged r res [] least most = absurd (omega arith)
data_judged r res (b ∷ bytes) least most =
    let n : suc (suc (length bytes)) ≡ length (b ∷ bytes) + 1 = omega arith in
    frame_judged (res ∷ b ∷ bytes) (few_data (length (b ∷ bytes)) most) r ∙ ap (λ (k : ℕ). judged_by r k res b) n

-- the numbers of requests have no bit 7
pub number_small : (r : Request) → number_for r < 128
number_small Inquiry = omega arith
number_small (Erase s e) = omega arith
number_small (Write s e) = omega arith
number_small (Read s e) = omega arith
number_small Authenticate = omega arith
number_small (Baud brt) = omega arith
number_small Signature = omega arith
number_small (Area n) = omega arith
number_small WriteData = omega arith
number_small (Next left) = omega arith

-- a second test that fails
and_fails : (t : Bool) → (t && false) ≡ false
and_fails true = refl
and_fails false = refl

-- another RES grants nothing
pub grants_other : (due : Due) (number n res first : ℕ) → (res ≡ number → ⊥) → grants due number n res first ≡ false
unfolding grants
grants_other Status number n res first h = rw (ne_eqb res number h) (and_fails (eqb n 2))
grants_other (Data count) number n res first h = rw (ne_eqb res number h) (and_fails (eqb n (count + 1)))
grants_other Nothing number n res first h = refl

-- bit 7 tells the RES of a refusal from that of a grant
marked_apart : (n : ℕ) → n < 128 → marked n ≡ n → ⊥
marked_apart n h e = let k : marked n ≡ n + 128 = rw (lt-ltb n 128 h) refl in omega arith

-- by length, RES and the byte behind RES
module _ (r : Request) where
  -- bit 7 and a status that is not 0 refuse
  denial_told : (code : ℕ) → 0 < code → judged_by r 2 (marked (number_for r)) code ≡ RefusedWith code
  unfolding judged_by denies
  denial_told code h =
      let other : grants (due_for r) (number_for r) 2 (marked (number_for r)) code ≡ false =
      grants_other (due_for r) (number_for r) 2 (marked (number_for r)) code (marked_apart (number_for r) (number_small r)) in
      simp (other, eq-eqb (marked (number_for r)) (marked (number_for r)) refl, ne_eqb code 0 (λ e. omega arith))

  -- the status 0 grants where a status is due
  status_told : due_for r ≡ Status → judged_by r 2 (number_for r) 0x00 ≡ Passed
  unfolding judged_by grants
  status_told due = simp (due, eq-eqb (number_for r) (number_for r) refl)

  -- as many data bytes as are due grant, whatever they are
  data_told_lem : (count first : ℕ) → due_for r ≡ Data count → judged_by r (count + 1) (number_for r) first ≡ Passed
  unfolding judged_by grants
  data_told_lem count first due = simp (due, eq-eqb (number_for r) (number_for r) refl, eq-eqb (count + 1) (count + 1) refl)

-- a reply to the request's own number
module _ (r : Request) (request : ℕ) (is : request ≡ number_for r) where
  -- a refusal is told with exactly its code
  pub refusal_judged : (reason : Reason) → judgement_of r (status_reply request (Err reason)) ≡ RefusedWith (code_of reason)
  refusal_judged reason =
      data_judged r (marked request) (code_of reason ∷ []) (omega arith) (omega arith)
      ∙ ap (λ (n : ℕ). judged_by r 2 (marked n) (code_of reason)) is
      ∙ denial_told r (code_of reason) (code_positive reason)

  -- OK passes where a status is due
  pub status_passes : due_for r ≡ Status → judgement_of r (status_reply request (Ok tt)) ≡ Passed
  status_passes due =
      data_judged r request (0x00 ∷ []) (omega arith) (omega arith) ∙ ap (λ (n : ℕ). judged_by r 2 n 0x00) is ∙ status_told r due

  -- data passes where as many bytes are due
  pub data_passes : (bytes : List ℕ) → due_for r ≡ Data (length bytes) → 1 ≤ length bytes → length bytes ≤ 1024
      → judgement_of r (data_reply request bytes) ≡ Passed
  data_passes bytes due least most =
      data_judged r request bytes least most
      ∙ ap (λ (n : ℕ). judged_by r (length bytes + 1) n (get_or bytes 0 0)) is
      ∙ data_told_lem r (length bytes) (get_or bytes 0 0) due

-- of a read with bytes left a packet is due
pub read_due_lem : (left : ℕ) → 1 ≤ left → read_due left ≡ Data (min left 1024)
read_due_lem left h = rw (ne_eqb left 0 (λ e. omega arith)) refl
