-- The judge takes a whole data packet whole: it says nothing before the last byte. Assumes nothing.
use mathlib.Core.List.{List, [], ◌∷◌, ◌++◌}
use mathlib.Core.Path.{◌≡◌, refl, sym, ap, ◌∙◌}
use Prim.Native.Nat.{ℕ, suc, ◌+◌, ◌-◌}
use native.Mathlib.Omega.{arith}
use lib.ListN.{length, take, drop, get_or, length-append, take-append-drop, drop_of_length-le}
use lib.Seq.{drop-cons}
use Rattle.packet.specs.declared.Kind.TheVariants.{Data as DataPacket}
use Rattle.packet.specs.declared.Progress.TheVariants.{Partial, Complete}
use Rattle.packet.specs.Packet.{progress_of}
use Rattle.packet.proofs.There.{complete_least}
use Rattle.packet.proofs.Gathering.{held, held_until}
use Rattle.host_request.specs.declared.Request.{Request}
use Rattle.host_judge.specs.declared.Judge.{Judge}
use Rattle.host_judge.specs.declared.Judgement.TheVariants.{Unanswered}
use Rattle.host_judge.specs.Reply.{from_mark, judgement_of}
use Rattle.host_judge.specs.Judge.{fresh_judge, hearing_of}
use Rattle.host_judge.proofs.Deciding.{mark_first, says_open}
use Rattle.host_judge.proofs.Verdicts.{count_cut, taken_all, judge_says}

-- a list and its last element
last_split : (l : List ℕ) (n : ℕ) → length l ≡ suc n → l ≡ take n l ++ get_or l n 0 ∷ []
last_split l n h =
    let d : drop n l ≡ get_or l n 0 ∷ [] = rw (drop-cons l n 0 (omega arith), drop_of_length-le l {i = suc n} (omega arith)) refl in
    sym (take-append-drop n l) ∙ ap (λ (r : List ℕ). take n l ++ r) d

-- bytes of a packet of which more are to come say nothing
pub part_unanswered : (r : Request) (q : List ℕ) → progress_of DataPacket q ≡ Partial → judgement_of r q ≡ Unanswered
unfolding from_mark
part_unanswered r q e = says_open r q (ap (progress_of DataPacket) (by q e) ∙ e)
  where
    by : (l : List ℕ) → progress_of DataPacket l ≡ Partial → from_mark l ≡ l
    by [] k = refl
    by (b ∷ l) k = mark_first (b ∷ l) ((held DataPacket (b ∷ l) k).start (omega arith))

-- a judge that has decided nothing takes one byte more
one_taken : (j : Judge) (b : ℕ) → j.judgement ≡ Unanswered → (hearing_of j (b ∷ [])).count ≡ 1
unfolding hearing_of
one_taken j b e = rw e refl

-- so the last byte of a packet, which decides, is taken too
pub whole_taken : (r : Request) (q : List ℕ) → progress_of DataPacket q ≡ Complete → (hearing_of (fresh_judge r) q).count ≡ length q
whole_taken r q e =
    let n : ℕ = length q - 1 in
    let split : q ≡ take n q ++ get_or q n 0 ∷ [] = last_split q n (omega (arith, complete_least DataPacket q e)) in
    let whole : progress_of DataPacket (take n q ++ get_or q n 0 ∷ []) ≡ Complete = ap (progress_of DataPacket) (sym split) ∙ e in
    let part : progress_of DataPacket (take n q) ≡ Partial = held_until DataPacket (take n q) (get_or q n 0) [] whole in
    let quiet : (hearing_of (fresh_judge r) (take n q)).judge.judgement ≡ Unanswered = judge_says r (take n q) ∙ part_unanswered r (take n q) part in
    ap (λ (l : List ℕ). (hearing_of (fresh_judge r) l).count) split
    ∙ count_cut (fresh_judge r) (take n q) (get_or q n 0 ∷ [])
    ∙ ap (λ (k : ℕ). k + (hearing_of (hearing_of (fresh_judge r) (take n q)).judge (get_or q n 0 ∷ [])).count) (taken_all (fresh_judge r) (take n q) quiet)
    ∙ ap (λ (k : ℕ). length (take n q) + k) (one_taken (hearing_of (fresh_judge r) (take n q)).judge (get_or q n 0) quiet)
    ∙ sym (length-append (take n q) (get_or q n 0 ∷ []))
    ∙ ap length (sym split)
