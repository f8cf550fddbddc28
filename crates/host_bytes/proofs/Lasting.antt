-- A judge's numbers stay within their widths: of a fresh judge, behind any bytes, and of one that was read; what is written of it are bytes.
-- Assumes nothing.
use mathlib.Core.Bool.{Bool, true, false, ◌&&◌, ◌||◌, not, cond}
use mathlib.Core.List.{List, [], ◌∷◌, ◌++◌}
use Rattle.std.specs.Prelude.{Some, None}
use mathlib.Core.Path.{◌≡◌, refl, ap, subst, ◌∙◌}
use Prim.Native.Nat.{ℕ, zero, suc, ◌+◌, ◌-◌, ◌/◌, ◌^◌, ◌≤◌, ◌<◌}
use native.Mathlib.Nat.{mod-lt}
use native.Mathlib.Omega.{arith}
use lib.Dec.{leb, ltb, eqb}
use lib.ListN.{length, drop, get_or, replicate, set, length-set, length-take, length-drop}
use borrow.Author.Tests.{leb-false, ltb-true, ltb-false}
use Rattle.numbers.specs.Bytes.{bytes_of, field, AllBytes}
use Rattle.numbers.proofs.RoundTrip.{all_drop, all_take, number_below}
use Rattle.packet.specs.declared.Kind.TheVariants.{Data as DataPacket}
use Rattle.packet.specs.Packet.{permitted}
use Rattle.packet.proofs.Laws.{impossible}
use Rattle.packet_fields.specs.Fields.{four_at}
use Rattle.packet_fields.proofs.Laws.{value_read}
use Rattle.host_request.specs.declared.Request.{Request}
use Rattle.host_request.specs.declared.Request.TheVariants.{Inquiry, Erase, Write, Read, Authenticate, Baud, Signature, Area, WriteData, Next}
use Rattle.host_request.specs.Request.{number_for, InWidth}
use Rattle.host_judge.specs.declared.Judgement.{Judgement}
use Rattle.host_judge.specs.declared.Judgement.TheVariants.{Unanswered, Passed, Refused, WrongReply}
use Rattle.host_judge.specs.declared.Reply.{Reply}
use Rattle.host_judge.specs.declared.Judge.{Judge}
use Rattle.host_judge.specs.Reply.{judgement_number, is_unanswered, due_for, grants, denies, judged_by}
use Rattle.host_judge.specs.Judge.{fresh_judge, length_in, with_count, is_kept, grown, begun, advanced, finished, heard_byte, hearing_of, taken_of}
use Rattle.host_judge.proofs.OneByte.{number_of_two, and_false}
use Rattle.host_judge.proofs.Verdicts.{taken_none, judge_next}
use Rattle.host_bytes.specs.Requests.{request_number, first_number, second_number, request_in}
use Rattle.host_bytes.specs.Judges.{judgement_in, reply_in, judge_in, judge_bytes}
use Rattle.host_bytes.proofs.Widths.{Coded, FormedJudge}
use Rattle.host_bytes.proofs.RoundTrip.{chosen, request_only, judge_read, judge_only}

-- lists of bytes: zeros, one with another byte in it, and the first of one
zeros_bytes : (n : ℕ) → AllBytes (replicate n 0)
unfolding AllBytes
zeros_bytes zero = tt
zeros_bytes (suc n) = (omega arith, zeros_bytes n)

set_bytes : (l : List ℕ) (i b : ℕ) → AllBytes l → b < 256 → AllBytes (set l i b)
unfolding AllBytes
set_bytes [] i b t h = t
set_bytes (x ∷ l) zero b t h = (h, t.1)
set_bytes (x ∷ l) (suc i) b t h = (t.0, set_bytes l i b t.1 h)

first_byte : (l : List ℕ) → AllBytes l → get_or l 0 0 < 256
unfolding AllBytes
first_byte [] t = omega arith
first_byte (x ∷ l) t = t.0

-- either of two bytes is one
either_byte : (t : Bool) (a b : ℕ) → a < 256 → b < 256 → cond t a b < 256
either_byte true a b h k = h
either_byte false a b h k = k

-- a fresh judge
pub fresh_formed : (r : Request) → InWidth r → FormedJudge (fresh_judge r)
fresh_formed r w =
    record {
      asked = w;
      said = tt;
      count = omega arith;
      high = omega arith;
      low = omega arith;
      res = omega arith;
      sum = omega arith;
      seventeen = refl;
      kept = zeros_bytes 17;
    }

-- a status of 0 refuses nothing
zero_is_no_refusal : (number n res : ℕ) → denies number n res 0 ≡ false
unfolding denies
zero_is_no_refusal number n res = simp and_false

-- a verdict on a reply whose status is a byte: it refuses with no other, and not with 0
judged_coded : (r : Request) (n res first : ℕ) → first < 256 → Coded (judged_by r n res first)
unfolding judged_by
judged_coded r n res first h = by (grants (due_for r) (number_for r) n res first) (denies (number_for r) n res first) refl
  where
    by : (granted denied : Bool) → denies (number_for r) n res first ≡ denied → Coded (cond granted Passed (cond denied (Refused first) WrongReply))
    by true denied e = tt
    by false false e = tt
    by false true e =
        let Some : first ≡ 0 → ⊥ =
        λ z. let k : _ ≡ false = ap (denies (number_for r) n res) z ∙ zero_is_no_refusal (number_for r) n res in impossible (cc) in
        (omega arith, omega arith)

-- a wrong reply, or the verdict that there was
wrong_coded : (t : Bool) (v : Judgement) → Coded v → Coded (cond t WrongReply v)
wrong_coded true v k = tt
wrong_coded false v k = k

-- one byte more
module _ (j : Judge) (f : FormedJudge j) (b : ℕ) (h : b < 256) where
  -- with another verdict and count
  recounted : (v : Judgement) → Coded v → (n : ℕ) → n < 4294967296
      → FormedJudge (record { request = j.request; judgement = v; reply = with_count n j.reply })
  recounted v k n m =
      record {
        asked = f.asked;
        said = k;
        count = m;
        high = f.high;
        low = f.low;
        res = f.res;
        sum = f.sum;
        seventeen = f.seventeen;
        kept = f.kept;
      }

  -- what the length bytes say has two bytes
  length_below : length_in j.reply < 65536
  length_below = omega (arith, number_of_two j.reply.high j.reply.low)

  -- 81h or noise, where nothing came before
  begun_formed : FormedJudge (begun j b)
  begun_formed = by (eqb b 0x81)
    where
      by : (t : Bool)
          → FormedJudge (record { request = j.request; judgement = j.judgement; reply = cond t (with_count 1 j.reply) j.reply })
      by true = recounted j.judgement f.said 1 (omega arith)
      by false = f

  -- the last byte
  finished_formed : FormedJudge (finished j b)
  finished_formed =
      recounted _ (by (eqb b 0x03 && eqb j.reply.sum 0)) (length_in j.reply + 5) (omega (arith, length_below))
    where
      by : (t : Bool)
          → Coded (cond t (judged_by j.request (length_in j.reply) j.reply.res (get_or j.reply.first 0 0)) WrongReply)
      by true = judged_coded j.request (length_in j.reply) j.reply.res (get_or j.reply.first 0 0) (first_byte j.reply.first f.kept)
      by false = tt

  -- one between them: only up to the last are bytes counted
  grown_formed : (leb 3 j.reply.count && leb (length_in j.reply + 4) j.reply.count) ≡ false → FormedJudge (advanced j (grown j.reply b))
  unfolding grown
  grown_formed e =
      let y : Reply = grown j.reply b in
      record {
        asked = f.asked;
        said = wrong_coded (eqb y.count 3 && not (permitted DataPacket (length_in y))) j.judgement f.said;
        count = count (leb 3 j.reply.count) refl (leb (length_in j.reply + 4) j.reply.count) refl e;
        high = either_byte (eqb j.reply.count 1) b j.reply.high h f.high;
        low = either_byte (eqb j.reply.count 2) b j.reply.low h f.low;
        res = either_byte (eqb j.reply.count 3) b j.reply.res h f.res;
        sum = omega arith;
        seventeen = (first (is_kept j.reply)).0;
        kept = (first (is_kept j.reply)).1;
      }
    where
      count : (s : Bool) → leb 3 j.reply.count ≡ s → (t : Bool) → leb (length_in j.reply + 4) j.reply.count ≡ t → (s && t) ≡ false
          → j.reply.count + 1 < 4294967296
      count true p true q e = impossible (cc)
      count true p false q e = omega (arith, length_below, leb-false (length_in j.reply + 4) j.reply.count q)
      count false p t q e = omega (arith, leb-false 3 j.reply.count p)

      first : (t : Bool)
          → (length (cond t (set j.reply.first (j.reply.count - 4) b) j.reply.first) ≡ 17)
          × AllBytes (cond t (set j.reply.first (j.reply.count - 4) b) j.reply.first)
      first true =
          (length-set j.reply.first (j.reply.count - 4) b ∙ f.seventeen, set_bytes j.reply.first (j.reply.count - 4) b f.kept h)
      first false = (f.seventeen, f.kept)

  -- whichever it is
  byte_formed : FormedJudge (heard_byte j b)
  unfolding heard_byte
  byte_formed = by (eqb j.reply.count 0) (leb 3 j.reply.count && leb (length_in j.reply + 4) j.reply.count) refl
    where
      by : (none last : Bool) → (leb 3 j.reply.count && leb (length_in j.reply + 4) j.reply.count) ≡ last
          → FormedJudge (cond none (begun j b) (cond last (finished j b) (advanced j (grown j.reply b))))
      by true last e = begun_formed
      by false true e = finished_formed
      by false false e = grown_formed e

-- any bytes
pub taken_formed : (j : Judge) → FormedJudge j → (bytes : List ℕ) → AllBytes bytes → FormedJudge (taken_of j bytes).judge
unfolding hearing_of AllBytes
taken_formed j f [] t = f
taken_formed j f (b ∷ bytes) t =
    by (is_unanswered j.judgement) refl (taken_formed (heard_byte j b) (byte_formed j f b t.0) bytes t.1)
  where
    by : (u : Bool) → is_unanswered j.judgement ≡ u → FormedJudge (hearing_of (heard_byte j b) bytes).judge
        → FormedJudge (hearing_of j (b ∷ bytes)).judge
    by true e later = rw (judge_next j b bytes e) later
    by false e later = rw (taken_none j (b ∷ bytes) e) f

-- a request's own numbers are within its widths where they have four bytes: an area's number is looked at
told_width : (r : Request) → request_in (request_number r) (first_number r) (second_number r) ≡ Some r → first_number r < 4294967296
    → second_number r < 4294967296 → InWidth r
unfolding request_in
told_width Inquiry e f s = tt
told_width (Erase a b) e f s = (f, s)
told_width (Write a b) e f s = (f, s)
told_width (Read a b) e f s = (f, s)
told_width Authenticate e f s = tt
told_width (Baud brt) e f s = f
told_width Signature e f s = tt
told_width (Area n) e f s = chosen (ltb n 256) e (λ t _. ltb-true n 256 t) (λ _ z. impossible (cc))
told_width WriteData e f s = tt
told_width (Next left) e f s = f

-- so are those of the request that numbers of four bytes are
pub asked_width : (n first second : ℕ) → first < 4294967296 → second < 4294967296 → (r : Request) → request_in n first second ≡ Some r → InWidth r
asked_width n first second f s r e =
    let a = request_only n first second r e in
    told_width r (rw (← a.0, ← a.1, ← a.2) e) (omega (arith, a.1)) (omega (arith, a.2))

-- the verdict of a number refuses with a byte that is not 0, if it refuses
said_coded : (n : ℕ) (v : Judgement) → judgement_in n ≡ Some v → Coded v
unfolding judgement_in
said_coded n Unanswered h = tt
said_coded n Passed h = tt
said_coded n WrongReply h = tt
said_coded n (Refused code) h =
    chosen (eqb n 0) h (λ _ e. impossible (cc)) (λ _ h₁.
    chosen (eqb n 1) h₁ (λ _ e. impossible (cc)) (λ _ h₂.
    chosen (eqb n 2) h₂ (λ _ e. impossible (cc)) (λ _ h₃.
    by (leb n 256) refl (ltb 511 n) refl h₃)))
  where
    by : (s : Bool) → leb n 256 ≡ s → (t : Bool) → ltb 511 n ≡ t → cond (s || t) None (Some (Refused (n - 256))) ≡ Some (Refused code)
        → (1 ≤ code) × (code ≤ 255)
    by true p t q e = impossible (cc)
    by false p true q e = impossible (cc)
    by false p false q e =
        let k : n - 256 ≡ code = cc in
        (omega (arith, leb-false n 256 p), omega (arith, ltb-false 511 n q))

-- a number in four bytes
four_below : (bs : List ℕ) → AllBytes bs → (at : ℕ) → at + 4 ≤ length bs → four_at bs at < 4294967296
unfolding four_at
four_below bs t at h =
    let l : length (field 4 at bs) ≡ 4 = simp (length-take, length-drop) (omega arith) in
    let n = number_below (field 4 at bs) (all_take 4 (drop at bs) (all_drop at bs t)) in
    omega (arith, value_read 4 at bs h, rw l at n)

-- a judge that was read from bytes
pub in_formed : (bs : List ℕ) → AllBytes bs → (j : Judge) → judge_in bs ≡ Some j → FormedJudge j
unfolding AllBytes judge_bytes bytes_of reply_in
in_formed bs t j h =
    let o = judge_read bs j h in
    let e : bs ≡ judge_bytes j = judge_only bs t j h in
    let below : (at : ℕ) → at ≤ 32 → four_at bs at < 4294967296 = λ at k. four_below bs t at (omega (arith, o.whole)) in
    let y : AllBytes (drop 15 (judge_bytes j)) = subst AllBytes (ap (drop 15) e) (all_drop 15 bs t) in
    record {
      asked = asked_width (get_or bs 2 0) (four_at bs 3) (four_at bs 7) (below 3 (omega arith)) (below 7 (omega arith)) j.request o.asked;
      said = said_coded _ j.judgement o.said;
      count = omega (arith, ap (λ (r : Reply). r.count) o.reply, below 11 (omega arith));
      high = y.0;
      low = y.1.0;
      res = y.1.1.0;
      sum = y.1.1.1.0;
      seventeen = omega (arith, ap length e, o.whole);
      kept = y.1.1.1.1;
    }

-- a request's number is a byte
number_byte : (r : Request) → request_number r < 256
number_byte Inquiry = omega arith
number_byte (Erase s e) = omega arith
number_byte (Write s e) = omega arith
number_byte (Read s e) = omega arith
number_byte Authenticate = omega arith
number_byte (Baud brt) = omega arith
number_byte Signature = omega arith
number_byte (Area n) = omega arith
number_byte WriteData = omega arith
number_byte (Next left) = omega arith

-- a number's bytes before others
bytes_then : (w n : ℕ) (l : List ℕ) → AllBytes l → AllBytes (bytes_of w n ++ l)
unfolding bytes_of AllBytes
bytes_then zero n l t = t
bytes_then (suc w) n l t = (mod-lt (n / 256 ^ w) (omega arith), bytes_then w n l t)

-- a judge's bytes are bytes
pub judge_bytes_lem : (j : Judge) → FormedJudge j → AllBytes (judge_bytes j)
unfolding AllBytes judge_bytes bytes_of
judge_bytes_lem j f =
    let behind : List ℕ = j.reply.high ∷ j.reply.low ∷ j.reply.res ∷ j.reply.sum ∷ j.reply.first in
    let count : List ℕ = bytes_of 4 j.reply.count ++ behind in
    let second : List ℕ = bytes_of 4 (second_number j.request) ++ count in
    let first : List ℕ = bytes_of 4 (first_number j.request) ++ second in
    bytes_then 2 (judgement_number j.judgement) (request_number j.request ∷ first) (
      number_byte j.request,
      bytes_then 4 (first_number j.request) second
          (bytes_then 4 (second_number j.request) count (bytes_then 4 j.reply.count behind (f.high, (f.low, (f.res, (f.sum, f.kept)))))),
    )
