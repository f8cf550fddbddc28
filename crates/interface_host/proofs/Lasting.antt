-- A judge that is kept as 36 bytes between calls is the judge that was given all bytes at once. Assumes nothing.
use Rattle.host_judge.specs.declared.Judgement.{Judgement}
use mathlib.Core.Bool.{true}
use mathlib.Core.List.{List, ◌++◌}
use Rattle.std.specs.Prelude.{Some, Option, None}
use mathlib.Core.Path.{◌≡◌, refl, sym, ap, subst, ◌∙◌}
use Prim.Native.Nat.{ℕ, ◌<◌}
use native.Mathlib.Omega.{arith}
use lib.ListN.{length}
use lib.Dec.{eqb}
use lib.Seq.{take-append_seam, drop-append_seam}
use borrow.Author.Tests.{eq-eqb}
use Rattle.numbers.specs.Bytes.{AllBytes}
use Rattle.numbers.proofs.RoundTrip.{all_take, all_drop}
use Rattle.host_request.specs.declared.Request.{Request}
use Rattle.host_judge.specs.declared.Judge.{Judge}
use Rattle.host_judge.specs.Reply.{judgement_number, judgement_of}
use Rattle.host_judge.specs.Judge.{fresh_judge, taken_of}
use Rattle.host_judge.specs.Meaning.{joined, judge_after}
use Rattle.host_judge.proofs.Verdicts.{cuts_say}
use Rattle.host_bytes.specs.Requests.{request_in}
use Rattle.host_bytes.specs.Judges.{judge_length, judge_bytes, head_in, judge_with, judge_by, judge_in, judge_over}
use Rattle.host_bytes.proofs.Widths.{FormedJudge}
use Rattle.host_bytes.proofs.RoundTrip.{judge_back, judge_read}
use Rattle.host_bytes.proofs.Lasting.{fresh_formed, taken_formed, asked_width, in_formed, judge_bytes_lem}
use Rattle.interface_host.specs.Post.{BeginsBytes, takes_over, TakesBytes, verdict_number}
use Rattle.interface_host.specs.Told.{TakenAll, none_taken, next_taken}
use Rattle.interface_host.proofs.Tells.{verdict_told}
use Rattle.interface_host.proofs.Begun.{begun_told}

-- bytes that are written of a formed judge are that judge again, and bytes
kept_reads : (j : Judge) → FormedJudge j → {bs : List ℕ} → bs ≡ judge_bytes j → (judge_in bs ≡ Some j) × AllBytes bs
kept_reads j f e = (ap judge_in e ∙ judge_back j f, subst AllBytes (sym e) (judge_bytes_lem j f))

-- the bytes of a judge that was begun are a fresh one of the request, whose numbers have four bytes each
pub begun_reads : (request first second : ℕ) → first < 4294967296 → second < 4294967296 → (before after : List ℕ)
    → BeginsBytes request first second before after 1 → (r : Request) → request_in request first second ≡ Some r
    → (judge_in after ≡ Some (fresh_judge r)) × AllBytes after
begun_reads request first second f s before after told r e =
    let b = (begun_told request first second before after 1 told).0 refl in
    let k : b.asked ≡ r = cc (b.is, e) in
    kept_reads (fresh_judge r) (fresh_formed r (asked_width request first second f s r e))
    (b.leaves ∙ ap (λ (q : Request). judge_bytes (fresh_judge q)) k)

-- what taking leaves of a judge's bytes
takes_leaves : (bytes before : List ℕ) (j : Judge) → judge_in before ≡ Some j
    → takes_over (head_in before) bytes before ≡ judge_bytes (taken_of j bytes).judge
takes_leaves bytes before j h =
    let w : eqb (length before) judge_length ≡ true = eq-eqb (length before) judge_length (judge_read before j h).whole in
    by (head_in before) h ∙ rw w refl
  where
    by : (x : Option (Request × Judgement)) → judge_by before x ≡ Some j → takes_over x bytes before ≡ judge_over (taken_of j bytes).judge before
    by None e = let z : ◌≡◌ {A = ℕ} 0 1 = cc in absurd (omega arith)
    by (Some (q, v)) e = let k : judge_with before q v ≡ j = cc in ap (λ (i : Judge). judge_over (taken_of i bytes).judge before) k

-- the bytes of a judge that took bytes are the judge behind them
pub taken_reads : {bytes before after : List ℕ} {r taken from to : ℕ} → TakesBytes bytes before after r taken from to → (j : Judge)
    → judge_in before ≡ Some j → AllBytes before → AllBytes bytes → (judge_in after ≡ Some (taken_of j bytes).judge) × AllBytes after
taken_reads {bytes} {before} told j h b t =
    kept_reads (taken_of j bytes).judge (taken_formed j (in_formed before b j h) bytes t) (told.leaves ∙ takes_leaves bytes before j h)

-- over any calls they are the judge that was given all bytes
calls_read : {cuts : List (List ℕ)} {before after : List ℕ} → TakenAll cuts before after → (j : Judge) → judge_in before ≡ Some j → AllBytes before
    → AllBytes (joined cuts) → judge_in after ≡ Some (judge_after j cuts)
unfolding joined judge_after
calls_read none_taken j h b t = h
calls_read (next_taken {cut} {cuts} told more) j h b t =
    let c : AllBytes cut = subst AllBytes (take-append_seam cut (joined cuts)) (all_take (length cut) (cut ++ joined cuts) t) in
    let d : AllBytes (joined cuts) = subst AllBytes (drop-append_seam cut (joined cuts)) (all_drop (length cut) (cut ++ joined cuts) t) in
    let k = taken_reads told j h b c in
    calls_read more (taken_of j cut).judge k.0 k.1 d

-- a judge that was begun, and given bytes by any calls, says of them what the definition says of all of them
pub calls_say : (request first second : ℕ) → first < 4294967296 → second < 4294967296 → (before start : List ℕ)
    → BeginsBytes request first second before start 1 → (cuts : List (List ℕ)) (last : List ℕ) → TakenAll cuts start last → AllBytes (joined cuts)
    → (r : Request) → request_in request first second ≡ Some r → verdict_number last ≡ judgement_number (judgement_of r (joined cuts))
calls_say request first second f s before start begun cuts last calls t r e =
    let b = begun_reads request first second f s before start begun r e in
    (verdict_told last (judgement_of r (joined cuts))).1
    (record { judge = judge_after (fresh_judge r) cuts; there = calls_read calls (fresh_judge r) b.0 b.1 t; has = cuts_say r cuts })
