-- The judge's parts, put one after the other into 36 bytes, are all of them. Assumes nothing.
use mathlib.Core.List.{List, [], ◌∷◌, ◌++◌}
use mathlib.Core.Path.{◌≡◌, refl, sym, ap, ◌∙◌}
use Prim.Native.Nat.{ℕ, ◌≤◌}
use native.Mathlib.Omega.{arith}
use lib.ListN.{length, take, drop, set}
use lib.Seq.{sets, paste, take_all}
use Rattle.numbers.specs.Bytes.{bytes_of, with_number}
use Rattle.numbers.proofs.Copied.{part_count, pasted}
use Rattle.host_request.specs.declared.Request.{Request}
use Rattle.host_judge.specs.declared.Judgement.{Judgement}
use Rattle.host_judge.specs.declared.Reply.{Reply}
use Rattle.host_judge.specs.declared.Judge.{Judge}
use Rattle.host_judge.specs.Reply.{judgement_number}
use Rattle.packet_fields.specs.Fields.{bytes_from}
use Rattle.packet_fields.proofs.Spelled.{spelled}
use Rattle.host_bytes.specs.Requests.{request_number, first_number, second_number}
use Rattle.host_bytes.specs.Judges.{head_bytes, reply_head, judge_bytes}

-- what holds of a list given entry by entry holds of the list
by_entries : (n : ℕ) (f g : List ℕ → List ℕ) (l : List ℕ) → length l ≡ n → f (bytes_from n 0 l) ≡ g (bytes_from n 0 l) → f l ≡ g l
by_entries n f g l h e = ap f (sym (spelled n l h)) ∙ e ∙ ap g (spelled n l h)

-- verdict, number and the request's own numbers fill the first eleven bytes
pub judge_head_put : (r : Request) (v : Judgement) (l l₁ l₂ l₃ : List ℕ) (said n first second : ℕ) → length l ≡ 36
    → said ≡ judgement_number v → n ≡ request_number r → first ≡ first_number r → second ≡ second_number r
    → l₁ ≡ with_number 2 said 0 l
    → l₂ ≡ with_number 4 first 3 (set l₁ 2 n)
    → l₃ ≡ with_number 4 second 7 l₂
    → l₃ ≡ sets l 0 (head_bytes r v)
unfolding bytes_of with_number bytes_from
judge_head_put r v l l₁ l₂ l₃ said n first second h a b d e p q o =
    let fill : List ℕ → List ℕ = λ k. with_number 4 second 7 (with_number 4 first 3 (set (with_number 2 said 0 k) 2 n)) in
    let head : List ℕ = bytes_of 2 said ++ (n ∷ []) ++ bytes_of 4 first ++ bytes_of 4 second in
    o
    ∙ ap (with_number 4 second 7) (q ∙ ap (λ (k : List ℕ). with_number 4 first 3 (set k 2 n)) p)
    ∙ by_entries 36 fill (λ k. sets k 0 head) l h refl
    ∙ rw (a, b, d, e) refl

-- the reply's numbers fill the eight bytes behind them
pub judge_reply_put : (y : Reply) (l l₁ : List ℕ) → length l ≡ 36 → l₁ ≡ with_number 4 y.count 11 l
    → set (set (set (set l₁ 15 y.high) 16 y.low) 17 y.res) 18 y.sum ≡ sets l 11 (reply_head y)
unfolding bytes_of with_number bytes_from
judge_reply_put y l l₁ h e =
    let fill : List ℕ → List ℕ = λ k. set (set (set (set k 15 y.high) 16 y.low) 17 y.res) 18 y.sum in
    ap fill e ∙ by_entries 36 (λ k. fill (with_number 4 y.count 11 k)) (λ k. sets k 11 (reply_head y)) l h refl

-- the first data bytes, copied over the seventeen bytes from place 19 on
pub judge_first_put : (first l new : List ℕ) → length l ≡ 36 → length first ≡ 17
    → new ≡ first ++ drop (length first) (take 17 (drop 19 l))
    → take 19 l ++ (new ++ drop 17 (drop 19 l)) ≡ paste l 19 first 17
judge_first_put first l new h k e =
    let o : 36 ≤ length l = omega arith in
    let f : first ≡ take 17 first = sym (take_all 17 first (omega arith)) in
    pasted 19 36 l o (omega arith) first new (part_count 19 36 l o ∙ sym k) e ∙ ap (λ (s : List ℕ). take 19 l ++ s ++ drop 36 l) f

-- the three parts fill all 36 bytes
pub judge_put : (j : Judge) (l l₁ l₂ l₃ : List ℕ) → length l ≡ 36 → length j.reply.first ≡ 17
    → l₁ ≡ sets l 0 (head_bytes j.request j.judgement)
    → l₂ ≡ sets l₁ 11 (reply_head j.reply)
    → l₃ ≡ paste l₂ 19 j.reply.first 17
    → l₃ ≡ judge_bytes j
unfolding bytes_of bytes_from judge_bytes
judge_put j l l₁ l₂ l₃ h i p q o =
    let head : List ℕ = head_bytes j.request j.judgement in
    let fill : List ℕ → List ℕ → List ℕ = λ k first. paste (sets (sets k 0 head) 11 (reply_head j.reply)) 19 first 17 in
    o
    ∙ ap (λ (k : List ℕ). paste k 19 j.reply.first 17) (q ∙ ap (λ (k : List ℕ). sets k 11 (reply_head j.reply)) p)
    ∙ ap (λ (k : List ℕ). fill k j.reply.first) (sym (spelled 36 l h))
    ∙ by_entries 17 (fill (bytes_from 36 0 l)) (λ k. head ++ reply_head j.reply ++ k) j.reply.first i refl
