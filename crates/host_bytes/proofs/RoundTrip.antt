-- Requests and verdicts read back from their numbers, and a judge from its bytes; no other numbers and no other bytes are the same one.
-- Assumes nothing.
use mathlib.Core.Bool.{Bool, true, false, ◌||◌, not, cond}
use mathlib.Core.List.{List, [], ◌∷◌, ◌++◌}
use Rattle.std.specs.Prelude.{None, Some, Option}
use mathlib.Core.Path.{◌≡◌, refl, sym, ap, ◌∙◌}
use Prim.Native.Nat.{ℕ, ◌+◌, ◌-◌, ◌≤◌, ◌<◌}
use native.Mathlib.Omega.{arith}
use lib.Dec.{leb, ltb, eqb}
use lib.ListN.{length, get_or, replicate}
use borrow.Author.Tests.{ne_eqb, eqb-true, lt-ltb, le-ltb, lt-leb, leb-false, not-false}
use Rattle.numbers.specs.Bytes.{number, bytes_of, value_at, AllBytes}
use Rattle.packet.proofs.Laws.{impossible}
use Rattle.packet_fields.specs.Fields.{four_at, two_at, bytes_from}
use Rattle.packet_fields.proofs.Spelled.{spelled}
use Rattle.packet_fields.proofs.FieldLaws.{two_back, four_back, back_two, back_four}
use Rattle.host_request.specs.declared.Request.{Request}
use Rattle.host_request.specs.declared.Request.TheVariants.{Inquiry, Erase, Write, Read, Authenticate, Baud, Signature, Area, WriteData, Next}
use Rattle.host_request.specs.Request.{InWidth}
use Rattle.host_judge.specs.declared.Judgement.{Judgement}
use Rattle.host_judge.specs.declared.Judgement.TheVariants.{Unanswered, Passed, Refused, WrongReply}
use Rattle.host_judge.specs.declared.Reply.{Reply}
use Rattle.host_judge.specs.declared.Judge.{Judge}
use Rattle.host_judge.specs.Reply.{judgement_number}
use Rattle.host_bytes.specs.Requests.{request_number, first_number, second_number, bare_in, single_in, request_in}
use Rattle.host_bytes.specs.Judges.{judge_length, judgement_in, head_by, head_in, reply_in, judge_with, judge_by, judge_in, judge_bytes}
use Rattle.host_bytes.proofs.Widths.{Coded, FormedJudge, first_width, second_width, said_width}

-- what a test that led to an answer says
pub chosen : {A : Type 0} (t : Bool) {a b v : A} {P : Type 0} → cond t a b ≡ v → (t ≡ true → a ≡ v → P) → (t ≡ false → b ≡ v → P) → P
chosen true h taken left = taken refl h
chosen false h taken left = left refl h

-- a request's numbers are that request
pub request_back : (r : Request) → InWidth r → request_in (request_number r) (first_number r) (second_number r) ≡ Some r
unfolding request_in
request_back Inquiry w = refl
request_back (Erase s e) w = refl
request_back (Write s e) w = refl
request_back (Read s e) w = refl
request_back Authenticate w = refl
request_back (Baud brt) w = refl
request_back Signature w = refl
request_back (Area n) w = rw (lt-ltb n 256 w) refl
request_back WriteData w = refl
request_back (Next left) w = refl

module _ (n first second : ℕ) (r : Request) where
  -- the three numbers are those of the request
  abbrev Tells : Type 0
  Tells = (n ≡ request_number r) × (first ≡ first_number r) × (second ≡ second_number r)

  -- they are, if they are those of the one that was told
  told_by_lem : (s : Request) → Some s ≡ Some r → n ≡ request_number s → first ≡ first_number s → second ≡ second_number s → Tells
  told_by_lem s e a b d = let k : s ≡ r = cc in (a ∙ ap request_number k, b ∙ ap first_number k, d ∙ ap second_number k)

  -- a request without numbers of its own
  bare_told : first ≡ 0 → second ≡ 0 → bare_in n ≡ Some r → Tells
  bare_told f s h =
      chosen (eqb n 1) h (λ t e. told_by_lem Inquiry e (eqb-true n 1 t) f s) (λ _ h₁.
      chosen (eqb n 5) h₁ (λ t e. told_by_lem Authenticate e (eqb-true n 5 t) f s) (λ _ h₂.
      chosen (eqb n 7) h₂ (λ t e. told_by_lem Signature e (eqb-true n 7 t) f s) (λ _ h₃.
      chosen (eqb n 9) h₃ (λ t e. told_by_lem WriteData e (eqb-true n 9 t) f s) (λ _ e. impossible (cc)))))

  -- one with one number at most
  single_told : second ≡ 0 → single_in n first ≡ Some r → Tells
  single_told s h =
      chosen (eqb n 6) h (λ t e. told_by_lem (Baud first) e (eqb-true n 6 t) refl s) (λ _ h₁.
      chosen (eqb n 10) h₁ (λ t e. told_by_lem (Next first) e (eqb-true n 10 t) refl s) (λ _ h₂.
      chosen (eqb n 8) h₂
      (λ t h₃. chosen (ltb first 256) h₃ (λ _ e. told_by_lem (Area first) e (eqb-true n 8 t) refl s) (λ _ e. impossible (cc)))
      (λ _ h₃.
      chosen (not (eqb first 0)) h₃ (λ _ e. impossible (cc)) (λ z e. bare_told (eqb-true first 0 (not-false (eqb first 0) z)) s e))))

  -- no other numbers are the request
  pub request_only : request_in n first second ≡ Some r → (n ≡ request_number r) × (first ≡ first_number r) × (second ≡ second_number r)
  unfolding request_in
  request_only h =
      chosen (eqb n 2) h (λ t e. told_by_lem (Erase first second) e (eqb-true n 2 t) refl refl) (λ _ h₁.
      chosen (eqb n 3) h₁ (λ t e. told_by_lem (Write first second) e (eqb-true n 3 t) refl refl) (λ _ h₂.
      chosen (eqb n 4) h₂ (λ t e. told_by_lem (Read first second) e (eqb-true n 4 t) refl refl) (λ _ h₃.
      chosen (not (eqb second 0)) h₃ (λ _ e. impossible (cc)) (λ z e. single_told (eqb-true second 0 (not-false (eqb second 0) z)) e))))

-- a verdict's number is that verdict
pub judgement_back_lem : (v : Judgement) → Coded v → judgement_in (judgement_number v) ≡ Some v
unfolding judgement_in
judgement_back_lem Unanswered w = refl
judgement_back_lem Passed w = refl
judgement_back_lem (Refused code) w =
    let n : ℕ = 256 + code in
    let e : n - 256 ≡ code = omega arith in
    let above : (k : ℕ) → k ≤ 256 → eqb n k ≡ false = λ k h. ne_eqb n k (λ z. omega arith) in
    rw (above 0 (omega arith), above 1 (omega arith), above 2 (omega arith), lt-leb n 256 (omega arith), le-ltb 511 n (omega arith), e) refl
judgement_back_lem WrongReply w = refl

-- where one of two tests would do, the first fails if none holds
first_fails : (s t : Bool) → (s || t) ≡ false → s ≡ false
first_fails true t e = impossible (cc)
first_fails false t e = refl

module _ (n : ℕ) (v : Judgement) where
  -- a number is the verdict's, if it is that of the one that was told
  said_by : (u : Judgement) → Some u ≡ Some v → n ≡ judgement_number u → n ≡ judgement_number v
  said_by u e a = let k : u ≡ v = cc in a ∙ ap judgement_number k

  -- no other number is the verdict
  pub judgement_only : judgement_in n ≡ Some v → n ≡ judgement_number v
  unfolding judgement_in
  judgement_only h =
      chosen (eqb n 0) h (λ t e. said_by Unanswered e (eqb-true n 0 t)) (λ _ h₁.
      chosen (eqb n 1) h₁ (λ t e. said_by Passed e (eqb-true n 1 t)) (λ _ h₂.
      chosen (eqb n 2) h₂ (λ t e. said_by WrongReply e (eqb-true n 2 t)) (λ _ h₃.
      chosen (leb n 256 || ltb 511 n) h₃ (λ _ e. impossible (cc)) (λ f e.
      said_by (Refused (n - 256)) e (omega (arith, leb-false n 256 (first_fails (leb n 256) (ltb 511 n) f)))))))

-- a judge whose first data bytes are given entry by entry
module _ (r : Request) (v : Judgement) (y : Reply) where
  abbrev spelt_reply : Reply
  spelt_reply =
      record { count = y.count; high = y.high; low = y.low; res = y.res; sum = y.sum; first = bytes_from 17 0 y.first }

  abbrev spelt_judge : Judge
  spelt_judge = record { request = r; judgement = v; reply = spelt_reply }

  -- its bytes begin with its request and its verdict
  head_read : InWidth r → Coded v → head_in (judge_bytes spelt_judge) ≡ Some (r, v)
  unfolding judge_bytes bytes_of bytes_from head_in
  head_read w k =
      let bs : List ℕ = judge_bytes spelt_judge in
      rw (
        two_back (judgement_number v) 0 bs (omega arith) (said_width v k) refl,
        four_back (first_number r) 3 bs (omega arith) (first_width r w) refl,
        four_back (second_number r) 7 bs (omega arith) (second_width r w) refl,
        request_back r w,
        judgement_back_lem v k,
      ) refl

  -- and the rest of them is its reply
  reply_read : y.count < 4294967296 → reply_in (judge_bytes spelt_judge) ≡ spelt_reply
  unfolding judge_bytes bytes_of bytes_from reply_in
  reply_read h = rw (four_back y.count 11 (judge_bytes spelt_judge) (omega arith) h refl) refl

  judge_spelt : InWidth r → Coded v → y.count < 4294967296 → judge_in (judge_bytes spelt_judge) ≡ Some spelt_judge
  judge_spelt w k h =
      ap (judge_by (judge_bytes spelt_judge)) (head_read w k)
      ∙ ap (λ (x : Reply). Some (record { request = r; judgement = v; reply = x })) (reply_read h)

-- a judge's bytes are that judge
pub judge_back : (j : Judge) → FormedJudge j → judge_in (judge_bytes j) ≡ Some j
judge_back j f =
    let e : bytes_from 17 0 j.reply.first ≡ j.reply.first = spelled 17 j.reply.first f.seventeen in
    rw e at (judge_spelt j.request j.judgement j.reply f.asked f.said f.count)

-- bytes that are a judge: as many as one has, its request and its verdict by their numbers, and its reply
pub record ReadAs (bs : List ℕ) (j : Judge) : Type 0 where
  pub whole : length bs ≡ judge_length
  pub asked : request_in (get_or bs 2 0) (four_at bs 3) (four_at bs 7) ≡ Some j.request
  pub said : judgement_in (two_at bs 0) ≡ Some j.judgement
  pub reply : reply_in bs ≡ j.reply

pub judge_read : (bs : List ℕ) (j : Judge) → judge_in bs ≡ Some j → ReadAs bs j
unfolding head_in
judge_read bs j h = by (eqb (length bs) judge_length) refl (request_in (get_or bs 2 0) (four_at bs 3) (four_at bs 7)) refl (judgement_in (two_at bs 0)) refl h
  where
    by : (t : Bool) → eqb (length bs) judge_length ≡ t
        → (x : Option Request) → request_in (get_or bs 2 0) (four_at bs 3) (four_at bs 7) ≡ x → (u : Option Judgement) → judgement_in (two_at bs 0) ≡ u
        → judge_by bs (cond t (head_by x u) None) ≡ Some j → ReadAs bs j
    by false l x p u q e = impossible (cc)
    by true l None p u q e = impossible (cc)
    by true l (Some r) p None q e = impossible (cc)
    by true l (Some r) p (Some v) q e =
        let k : judge_with bs r v ≡ j = cc in
        record {
          whole = eqb-true (length bs) judge_length l;
          asked = p ∙ ap (λ (i : Judge). Some i.request) k;
          said = q ∙ ap (λ (i : Judge). Some i.judgement) k;
          reply = ap (λ (i : Judge). i.reply) k;
        }

module _ (bs : List ℕ) (t : AllBytes bs) where
  -- 36 bytes, field by field
  in_fields : length bs ≡ 36
      → (bytes_from 2 0 bs ++ (get_or bs 2 0 ∷ []) ++ bytes_from 4 3 bs ++ bytes_from 4 7 bs)
      ++ (bytes_from 4 11 bs ++ (get_or bs 15 0 ∷ get_or bs 16 0 ∷ get_or bs 17 0 ∷ get_or bs 18 0 ∷ []))
      ++ bytes_from 17 19 bs
      ≡ bs
  unfolding bytes_from
  in_fields h = spelled 36 bs h

  -- the numbers that they begin with are those of request and verdict
  head_told : (r : Request) (v : Judgement) → length bs ≡ 36
      → (get_or bs 2 0 ≡ request_number r) × (four_at bs 3 ≡ first_number r) × (four_at bs 7 ≡ second_number r) → two_at bs 0 ≡ judgement_number v
      → bs ≡ judge_bytes (judge_with bs r v)
  unfolding judge_bytes reply_in
  head_told r v h a b =
      sym
      (rw (
        ← a.0,
        ← a.1,
        ← a.2,
        ← b,
        back_two 0 bs t (omega arith),
        back_four 3 bs t (omega arith),
        back_four 7 bs t (omega arith),
        back_four 11 bs t (omega arith),
      ) (in_fields h))

  -- a judge has one form as bytes
  pub judge_only : (j : Judge) → judge_in bs ≡ Some j → bs ≡ judge_bytes j
  judge_only j h =
      let o = judge_read bs j h in
      head_told j.request j.judgement o.whole
      (request_only (get_or bs 2 0) (four_at bs 3) (four_at bs 7) j.request o.asked)
      (judgement_only (two_at bs 0) j.judgement o.said)
      ∙ ap (λ (y : Reply). judge_bytes (record { request = j.request; judgement = j.judgement; reply = y })) o.reply

-- bytes that were only cleared are no judge
pub cleared_is_none : judge_in (replicate 36 0) ≡ None
unfolding head_in request_in four_at value_at number
cleared_is_none = refl
