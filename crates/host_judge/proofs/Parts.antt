-- The steps in which bytes are taken make what hearing one byte after the other makes. Assumes nothing.
use Rattle.std.proofs.Common.{◌≡◌, ℕ, Option, Some, None, position, suc, ◌+◌, ◌<◌, ◌≤◌, Bool, true, false, cond, not, ◌&&◌, ◌||◌, eqb, ltb, leb, ◌⊎◌, List, [], ◌∷◌, length, get_or, take, drop, refl, ap, ◌∙◌, inl, inr, ⊎_elim, zero-add, add-one, arith, length-drop, length-take-le, ltb-false, ltb-true, eq-eqb, ne_eqb, eqb-true, leb-false, leb-true}
use Rattle.std.specs.List.{position_or_len}
use Rattle.std.specs.Option.{unwrap_or}
use Rattle.std.proofs.lemmas.Bool.Decides.{nat_tests}
use Rattle.std.proofs.lemmas.Grind.{common_steps}
use borrow.Author.Tests.{eqb-false, not-true, not-false}
use Rattle.packet.specs.declared.Kind.TheVariants.{Data as DataPacket}
use Rattle.packet.specs.Packet.{start_of, permitted}
use Rattle.host_request.specs.declared.Request.{Request}
use Rattle.host_judge.specs.declared.Judgement.TheVariants.{WrongReply}
use Rattle.host_judge.specs.declared.Reply.{Reply}
use Rattle.host_judge.specs.declared.Judge.{Judge}
use Rattle.host_judge.specs.declared.taking.Part.{Part}
use Rattle.host_judge.specs.Reply.{is_unanswered, judged_by}
use Rattle.host_judge.specs.Judge.{Heard, length_in, with_count, grown, advanced, finished, heard_byte, hearing_of, last_judged}
use Rattle.host_judge.specs.Runs.{mark_place, began_part, not_next, next_part, run_added, run_of, no_run, run_part, hearing_with, HeardBytes}
use Rattle.host_judge.proofs.Deciding.{judged_answers}
use Rattle.host_judge.proofs.OneByte.{and_false, heard_first, heard_between, heard_last}
use Rattle.host_judge.proofs.Runs.{with_reply, byte_heard, same_heard, run_heard, HeardSo, none_heard, more_heard, one_heard, heard_to_end, heard_to_verdict}

-- where 81h stands, if it does
pub mark_there : (bytes : List ℕ) → mark_place bytes < length bytes → get_or bytes (mark_place bytes) 0 ≡ start_of DataPacket
unfolding mark_place
mark_there [] h = absurd (omega arith)
mark_there (b ∷ bytes) h = by (eqb b (start_of DataPacket)) refl h (mark_there bytes)
  where
    by : (t : Bool) → eqb b (start_of DataPacket) ≡ t → cond t 0 (suc (mark_place bytes)) < suc (length bytes)
        → (mark_place bytes < length bytes → get_or bytes (mark_place bytes) 0 ≡ start_of DataPacket)
        → get_or (b ∷ bytes) (cond t 0 (suc (mark_place bytes))) 0 ≡ start_of DataPacket
    by true e h later = eqb-true b (start_of DataPacket) e
    by false e h later = later (omega arith)

-- it stands among the bytes or behind them
pub mark_within : (bytes : List ℕ) → mark_place bytes ≤ length bytes
unfolding mark_place
mark_within [] = omega arith
mark_within (b ∷ bytes) = by (eqb b (start_of DataPacket)) (mark_within bytes)
  where
    by : (t : Bool) → mark_place bytes ≤ length bytes → cond t 0 (suc (mark_place bytes)) ≤ suc (length bytes)
    by true h = omega arith
    by false h = omega arith

-- it is the first that a search finds
mark_first : (bytes : List ℕ) → position_or_len (λ b. eqb b (start_of DataPacket)) bytes ≡ mark_place bytes
unfolding mark_place
mark_first [] = refl
mark_first (b ∷ bytes) = by (eqb b (start_of DataPacket)) (mark_first bytes)
  where
    n : ℕ
    n = position_or_len (λ b. eqb b (start_of DataPacket)) bytes

    by : (t : Bool) → n ≡ mark_place bytes → cond (not t) (1 + n) 0 ≡ cond t 0 (suc (mark_place bytes))
    by true e = refl
    by false e = omega arith

place_or_end : (n m : ℕ) → n ≤ m → unwrap_or (cond (ltb n m) (Some n) None) m ≡ n
place_or_end n m h = grind (arith, nat_tests, common_steps)

pub mark_found : (bytes : List ℕ) (r : Option ℕ) → r ≡ position (λ b. eqb b (start_of DataPacket)) bytes → unwrap_or r (length bytes) ≡ mark_place bytes
mark_found bytes r e =
    let f = mark_first bytes in
    let w = mark_within bytes in
    ap (λ (o : Option ℕ). unwrap_or o (length bytes)) e ∙ place_or_end (position_or_len (λ b. eqb b (start_of DataPacket)) bytes) (length bytes) (omega arith) ∙ f

-- one of two tests holds
either_of : (s t : Bool) → (s || t) ≡ true → (s ≡ true) ⊎ (t ≡ true)
either_of true t e = inl refl
either_of false t e = inr e

-- neither of them does
neither_of : (s t : Bool) → (s || t) ≡ false → (s ≡ false) × (t ≡ false)
neither_of false t e = (refl, e)
neither_of true t e = absurd (omega (arith, ap (λ (x : Bool). cond {A = ℕ} x 1 0) e))

-- a byte more makes one more
grown_count : (y : Reply) (b : ℕ) → (grown y b).count ≡ y.count + 1
unfolding grown
grown_count y b = refl

-- a whole reply gives a verdict
last_decides : (r : Request) (y : Reply) (b : ℕ) → is_unanswered (last_judged r y b) ≡ false
last_decides r y b = by (eqb b 0x03 && eqb y.sum 0)
  where
    by : (t : Bool) → is_unanswered (cond t (judged_by r (length_in y) y.res (get_or y.first 0 0)) WrongReply) ≡ false
    by true = judged_answers r (length_in y) y.res (get_or y.first 0 0)
    by false = refl

module _ (j : Judge) (u : is_unanswered j.judgement ≡ true) where
  -- bytes before 81h are skipped
  noise_skipped : j.reply.count ≡ 0 → (bytes : List ℕ)
      → hearing_of j (take (mark_place bytes) bytes) ≡ record { judge = j; count = mark_place bytes }
  unfolding mark_place hearing_of
  noise_skipped z [] = refl
  noise_skipped z (b ∷ bytes) = by (eqb b (start_of DataPacket)) refl (noise_skipped z bytes)
    where
      by : (t : Bool) → eqb b (start_of DataPacket) ≡ t
          → hearing_of j (take (mark_place bytes) bytes) ≡ record { judge = j; count = mark_place bytes }
          → hearing_of j (take (cond t 0 (suc (mark_place bytes))) (b ∷ bytes)) ≡ record { judge = j; count = cond t 0 (suc (mark_place bytes)) }
      by true e ih = refl
      by false e ih =
          let n : ℕ = mark_place bytes in
          let s : heard_byte j b ≡ j = heard_first j b z ∙ rw e refl in
          byte_heard j b (take n bytes) u
          ∙ same_heard _ _ _ _
          (ap (λ (x : Judge). (hearing_of x (take n bytes)).judge) s ∙ ap (λ (h : Heard). h.judge) ih)
          (ap (λ (x : Judge). (hearing_of x (take n bytes)).count + 1) s ∙ ap (λ (h : Heard). h.count + 1) ih ∙ add-one n)

  module _ (bytes : List ℕ) where
    -- a part of a reply behind some bytes: hearing the rest from it is hearing all, and while there are more it has come to this place
    pub record HeardPart (place : ℕ) (p : Part) : Type 0 where
      pub so : HeardSo j bytes (with_reply j p.reply) p.taken
      pub reached : p.taken < length bytes → place ≤ p.reply.count

    -- 81h
    pub part_began : HeardPart 1 (began_part j.reply bytes)
    part_began = by (eqb j.reply.count 0) refl (leb (length bytes) (mark_place bytes)) refl
      where
        skipped : j.reply.count ≡ 0 → mark_place bytes ≤ length bytes → HeardSo j bytes j (mark_place bytes)
        skipped z h =
            rw (zero-add (mark_place bytes)) at
            (more_heard j j j bytes 0 (mark_place bytes) (none_heard j bytes) (omega arith) (noise_skipped z bytes))

        by : (none : Bool) → eqb j.reply.count 0 ≡ none → (over : Bool) → leb (length bytes) (mark_place bytes) ≡ over
            → HeardPart 1 (cond none (cond over (record { reply = j.reply; taken = mark_place bytes })
            (record { reply = with_count 1 j.reply; taken = mark_place bytes + 1 })) (record { reply = j.reply; taken = 0 }))
        by false e over f =
            let z : j.reply.count ≡ 0 → ⊥ = eqb-false j.reply.count 0 e in
            record { so = none_heard j bytes; reached = λ h. omega arith }
        by true e true f =
            let m : length bytes ≤ mark_place bytes = leb-true (length bytes) (mark_place bytes) f in
            record { so = skipped (eqb-true j.reply.count 0 e) (mark_within bytes); reached = λ h. absurd (omega arith) }
        by true e false f =
            let m : mark_place bytes < length bytes = leb-false (length bytes) (mark_place bytes) f in
            let z : j.reply.count ≡ 0 = eqb-true j.reply.count 0 e in
            let b : ℕ = get_or bytes (mark_place bytes) 0 in
            let w : heard_byte j b ≡ with_reply j (with_count 1 j.reply) =
            heard_first j b z ∙ rw (eq-eqb b (start_of DataPacket) (mark_there bytes m)) refl in
            record {
              so = rw w at (one_heard j j bytes (mark_place bytes) (skipped z (mark_within bytes)) m u);
              reached = λ h. omega arith;
            }

    -- a byte behind 81h and before ETX, heard by itself
    module _ (p : Part) (so : HeardSo j bytes (with_reply j p.reply) p.taken) (more : p.taken < length bytes) where
      abbrev next : Reply
      next = grown p.reply (get_or bytes p.taken 0)

      between : (place : ℕ) → 1 ≤ place → p.reply.count ≡ place → place < length_in p.reply + 4
          → HeardSo j bytes (advanced (with_reply j p.reply) next) (p.taken + 1)
      between place h e l =
          rw (heard_between (with_reply j p.reply) (get_or bytes p.taken 0) (λ q. omega arith) (inr (omega arith))) at
          (one_heard j (with_reply j p.reply) bytes p.taken so more u)

    -- what is known where a byte with this place is next, and where it is not
    next_is : (place : ℕ) (p : Part) → not_next place bytes p ≡ false
        → (p.taken < length bytes) × (p.reply.count ≡ place) × (place < length_in p.reply + 4)
    next_is place p e =
        let a = neither_of (leb (length bytes) p.taken) (not (eqb p.reply.count place) || leb (length_in p.reply + 4) place) e in
        let b = neither_of (not (eqb p.reply.count place)) (leb (length_in p.reply + 4) place) a.1 in (
          leb-false (length bytes) p.taken a.0,
          eqb-true p.reply.count place (not-false (eqb p.reply.count place) b.0),
          leb-false (length_in p.reply + 4) place b.1,
        )

    next_not : (place n : ℕ) (p : Part) → HeardPart place p → n ≤ 4 → n ≤ place + 1 → not_next place bytes p ≡ true
        → p.taken < length bytes → n ≤ p.reply.count
    next_not place n p hp m l e h =
        ⊎_elim (λ a. absurd (omega (arith, leb-true (length bytes) p.taken a)))
        (λ a.
        ⊎_elim
        (λ b. omega (arith, eqb-false p.reply.count place (not-true (eqb p.reply.count place) b), hp.reached h))
        (λ b. omega (arith, leb-true (length_in p.reply + 4) place b, hp.reached h))
        (either_of (not (eqb p.reply.count place)) (leb (length_in p.reply + 4) place) a))
        (either_of (leb (length bytes) p.taken) (not (eqb p.reply.count place) || leb (length_in p.reply + 4) place) e)

    -- the byte with this place, where it does not decide
    pub part_next : (place n : ℕ) (p : Part) → HeardPart place p → 1 ≤ place → n ≤ 4 → n ≤ place + 1
        → (place ≡ 2 → ⊥) ⊎ (((next_part place bytes p).taken ≤ p.taken) ⊎ (permitted DataPacket (length_in (next_part place bytes p).reply) ≡ true))
        → HeardPart n (next_part place bytes p)
    unfolding next_part
    part_next place n p hp h m l fine = by (not_next place bytes p) refl fine
      where
        b : ℕ
        b = get_or bytes p.taken 0

        -- no verdict
        undecided : p.reply.count ≡ place
            → (place ≡ 2 → ⊥) ⊎ ((p.taken + 1 ≤ p.taken) ⊎ (permitted DataPacket (length_in (grown p.reply b)) ≡ true))
            → advanced (with_reply j p.reply) (grown p.reply b) ≡ with_reply j (grown p.reply b)
        undecided c (inl q) = rw (ne_eqb (grown p.reply b).count 3 (λ r. q (omega (arith, grown_count p.reply b)))) refl
        undecided c (inr (inl q)) = absurd (omega arith)
        undecided c (inr (inr q)) = rw (q, and_false (eqb (grown p.reply b).count 3)) refl

        by : (t : Bool) → not_next place bytes p ≡ t
            → (place ≡ 2 → ⊥)
            ⊎ (((cond {A = Part} t p (record { reply = grown p.reply b; taken = p.taken + 1 })).taken ≤ p.taken)
            ⊎ (permitted DataPacket (length_in (cond {A = Part} t p (record { reply = grown p.reply b; taken = p.taken + 1 })).reply) ≡ true))
            → HeardPart n (cond t p (record { reply = grown p.reply b; taken = p.taken + 1 }))
        by true e fine = record { so = hp.so; reached = next_not place n p hp m l e }
        by false e fine =
            let k = next_is place p e in
            record {
              so = rw (undecided k.1 fine) at (between p hp.so k.0 place h k.1 k.2);
              reached = λ q. omega (arith, grown_count p.reply b, k.1);
            }

    -- a length outside its range decides
    pub part_unfit : (p : Part) → HeardPart 2 p → p.taken < (next_part 2 bytes p).taken
        → permitted DataPacket (length_in (next_part 2 bytes p).reply) ≡ false
        → HeardBytes j bytes (hearing_with j WrongReply (next_part 2 bytes p).reply (next_part 2 bytes p).taken)
    unfolding next_part
    part_unfit p hp more bad = by (not_next 2 bytes p) refl more bad
      where
        r : Bool → Part
        r t = cond t p (record { reply = grown p.reply (get_or bytes p.taken 0); taken = p.taken + 1 })

        by : (t : Bool) → not_next 2 bytes p ≡ t → p.taken < (r t).taken → permitted DataPacket (length_in (r t).reply) ≡ false
            → HeardBytes j bytes (hearing_with j WrongReply (r t).reply (r t).taken)
        by true e more bad = absurd (omega arith)
        by false e more bad =
            let k = next_is 2 p e in
            let y : Reply = grown p.reply (get_or bytes p.taken 0) in
            let c : y.count ≡ 3 = omega (arith, grown_count p.reply (get_or bytes p.taken 0), k.1) in
            let w : advanced (with_reply j p.reply) y ≡ (hearing_with j WrongReply y 0).judge = rw (eq-eqb y.count 3 c, bad) refl in
            heard_to_verdict j (hearing_with j WrongReply y 0).judge bytes (p.taken + 1)
            (rw w at (between p hp.so k.0 2 (omega arith) k.1 k.2)) refl

    -- all before ETX
    pub part_run : (p : Part) → HeardPart 4 p → HeardPart (length_in (run_part bytes p).reply + 4) (run_part bytes p)
    unfolding run_part
    part_run p hp = by (no_run bytes p) refl
      where
        n : ℕ
        n = run_of bytes p

        r : Bool → Part
        r t = cond t p (record { reply = run_added p.reply (take n (drop p.taken bytes)); taken = p.taken + n })

        by : (t : Bool) → no_run bytes p ≡ t → HeardPart (length_in (r t).reply + 4) (r t)
        by true e =
            record {
              so = hp.so;
              reached = λ h.
                  ⊎_elim (λ a. absurd (omega (arith, leb-true (length bytes) p.taken a)))
                  (λ a.
                  ⊎_elim (λ b. absurd (omega (arith, ltb-true p.reply.count 4 b, hp.reached h)))
                  (λ b. leb-true (length_in p.reply + 4) p.reply.count b)
                  (either_of (ltb p.reply.count 4) (leb (length_in p.reply + 4) p.reply.count) a))
                  (either_of (leb (length bytes) p.taken) (ltb p.reply.count 4 || leb (length_in p.reply + 4) p.reply.count) e);
            }
        by false e =
            let a = neither_of (leb (length bytes) p.taken) (ltb p.reply.count 4 || leb (length_in p.reply + 4) p.reply.count) e in
            let b = neither_of (ltb p.reply.count 4) (leb (length_in p.reply + 4) p.reply.count) a.1 in
            let m : p.taken < length bytes = leb-false (length bytes) p.taken a.0 in
            let f : 4 ≤ p.reply.count = ltb-false p.reply.count 4 b.0 in
            let e : p.reply.count < length_in p.reply + 4 = leb-false (length_in p.reply + 4) p.reply.count b.1 in
            let d : List ℕ = drop p.taken bytes in
            let l : length (take n d) ≡ n = length-take-le n d (rw length-drop (omega arith)) in
            record {
              so =
                  more_heard j (with_reply j p.reply) (with_reply j (r false).reply) bytes p.taken n hp.so (omega arith)
                  (run_heard (with_reply j p.reply) (take n d) u (rw l (omega arith)) f (rw l (omega arith)) ∙ same_heard _ _ _ _ refl l);
              reached = λ h. rw l (omega arith);
            }

    -- at the end of the bytes all is heard
    pub part_ends : (place : ℕ) (p : Part) → HeardPart place p → length bytes ≤ p.taken
        → HeardBytes j bytes (hearing_with j j.judgement p.reply p.taken)
    part_ends place p hp h = heard_to_end j (with_reply j p.reply) bytes p.taken hp.so h

    -- and ETX decides
    pub part_last : (p : Part) → HeardPart (length_in p.reply + 4) p → p.taken < length bytes
        → HeardBytes j bytes
        (hearing_with j (last_judged j.request p.reply (get_or bytes p.taken 0)) (with_count (length_in p.reply + 5) p.reply) (p.taken + 1))
    part_last p hp h =
        let b : ℕ = get_or bytes p.taken 0 in
        let l : length_in p.reply + 4 ≤ p.reply.count = hp.reached h in
        let so = one_heard j (with_reply j p.reply) bytes p.taken hp.so h u in
        heard_to_verdict j (finished (with_reply j p.reply) b) bytes (p.taken + 1)
        (rw (heard_last (with_reply j p.reply) b (omega arith) l) at so)
        (last_decides j.request p.reply b)

    -- the steps one after the other: up to the first length byte,
    pub part_high : (a b : Part) → a ≡ began_part j.reply bytes → b ≡ next_part 1 bytes a → HeardPart 2 b
    part_high a b e f =
        rw (f, e) (part_next 1 2 (began_part j.reply bytes) part_began (omega arith) (omega arith) (omega arith) (inl (λ q. omega arith)))

    -- up to the second,
    pub part_low : (a b : Part) → HeardPart 2 a → b ≡ next_part 2 bytes a
        → (b.taken ≤ a.taken) ⊎ (permitted DataPacket (length_in b.reply) ≡ true) → HeardPart 3 b
    part_low a b h e fine = rw e (part_next 2 3 a h (omega arith) (omega arith) (omega arith) (inr (rw e at fine)))

    -- and up to ETX
    pub part_rest : (a b d e : Part) → HeardPart 3 a → b ≡ next_part 3 bytes a → d ≡ next_part 4 bytes b → e ≡ run_part bytes d
        → HeardPart (length_in e.reply + 4) e
    part_rest a b d e h p q r =
        let k : HeardPart 4 b = rw p (part_next 3 4 a h (omega arith) (omega arith) (omega arith) (inl (λ z. omega arith))) in
        let l : HeardPart 4 d = rw q (part_next 4 4 b k (omega arith) (omega arith) (omega arith) (inl (λ z. omega arith))) in
        rw r (part_run d l)
