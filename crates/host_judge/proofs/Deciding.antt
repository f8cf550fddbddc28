-- Bytes from 81h on are part of a packet, or they decide; what decides stays when more bytes come. Assumes nothing.
use Rattle.std.proofs.Common.{◌≡◌, ℕ, zero, suc, ◌+◌, ◌<◌, ◌≤◌, Bool, true, false, cond, not, eqb, ltb, ◌⊎◌, List, [], ◌∷◌, ◌++◌, length, get_or, take, drop, sym, refl, ap, ◌∙◌, inl, inr, append-nil, arith, length-append, take-append-drop, length-take-le, get_or-take, ltb-false, ltb-true, le-ltb, eq-eqb, ne_eqb, eqb-true}
use lib.ListN.{get_or-append}
use lib.Seq.{take-append-le}
use borrow.Author.Tests.{eqb-false}
use Rattle.packet.specs.declared.Kind.TheVariants.{Data as DataPacket}
use Rattle.packet.specs.declared.Progress.TheVariants.{Partial, Unfit, Complete, Excess}
use Rattle.packet.specs.Packet.{start_of, length_of, permitted, measured_of, progress_of, ends_well}
use Rattle.packet.proofs.Laws.{impossible}
use Rattle.packet.proofs.Gathering.{partial, Whole, front_says}
use Rattle.host_request.specs.declared.Request.{Request}
use Rattle.host_request.specs.Request.{number_for}
use Rattle.host_judge.specs.declared.Judgement.{Judgement}
use Rattle.host_judge.specs.declared.Judgement.TheVariants.{Unanswered, Passed, Refused, WrongReply}
use Rattle.host_judge.specs.Reply.{is_unanswered, due_for, grants, denies, judged_by, from_mark, first_packet, packet_judged, judged_at, judgement_of}
use Rattle.host_judge.specs.Meaning.{Quiet}

-- the bytes from the first 81h on

-- bytes that start with 81h are all of them
pub mark_first : (q : List ℕ) → get_or q 0 0 ≡ start_of DataPacket → from_mark q ≡ q
unfolding from_mark
mark_first [] h = refl
mark_first (b ∷ q) h = rw (eq-eqb b (start_of DataPacket) h) refl

-- noise is skipped
pub mark_skips : (b : ℕ) (bytes : List ℕ) → (b ≡ start_of DataPacket → ⊥) → from_mark (b ∷ bytes) ≡ from_mark bytes
unfolding from_mark
mark_skips b bytes h = rw (ne_eqb b (start_of DataPacket) h) refl

-- they start with 81h
pub mark_there : (bytes : List ℕ) → 0 < length (from_mark bytes) → get_or (from_mark bytes) 0 0 ≡ start_of DataPacket
unfolding from_mark
mark_there [] h = absurd (omega arith)
mark_there (b ∷ bytes) h = by (eqb b (start_of DataPacket)) refl (mark_there bytes) h
  where
    by : (t : Bool) → eqb b (start_of DataPacket) ≡ t → (0 < length (from_mark bytes) → get_or (from_mark bytes) 0 0 ≡ start_of DataPacket)
        → 0 < length (cond t (b ∷ bytes) (from_mark bytes)) → get_or (cond t (b ∷ bytes) (from_mark bytes)) 0 0 ≡ start_of DataPacket
    by true e later h = eqb-true b (start_of DataPacket) e
    by false e later h = later h

-- what comes before them is noise
pub record Skipped (bytes : List ℕ) : Type 0 where
  pub noise : List ℕ
  pub parts : bytes ≡ noise ++ from_mark bytes
  pub quiet : Quiet noise

-- one byte more of noise
quiet_more : (b : ℕ) (noise : List ℕ) → (b ≡ start_of DataPacket → ⊥) → Quiet noise → Quiet (b ∷ noise)
quiet_more b noise n h zero k z = n z
quiet_more b noise n h (suc i) k z = h i (omega arith) z

-- all bytes that were skipped
pub skipped : (bytes : List ℕ) → Skipped bytes
unfolding from_mark
skipped [] = record { noise = []; parts = refl; quiet = λ i h z. omega arith }
skipped (b ∷ bytes) = by (eqb b (start_of DataPacket)) refl (skipped bytes)
  where
    by : (t : Bool) → eqb b (start_of DataPacket) ≡ t → Skipped bytes → Skipped (b ∷ bytes)
    by true e later = record { noise = []; parts = rw e refl; quiet = λ i h z. omega arith }
    by false e later =
        record {
          noise = b ∷ later.noise;
          parts = rw e (ap (λ (l : List ℕ). b ∷ l) later.parts);
          quiet = quiet_more b later.noise (eqb-false b (start_of DataPacket) e) later.quiet;
        }

-- once or twice makes no difference, whatever comes behind
pub mark_twice : (a b : List ℕ) → from_mark (from_mark a ++ b) ≡ from_mark (a ++ b)
unfolding from_mark
mark_twice [] b = refl
mark_twice (x ∷ a) b = by (eqb x (start_of DataPacket)) refl (mark_twice a b)
  where
    by : (t : Bool) → eqb x (start_of DataPacket) ≡ t → from_mark (from_mark a ++ b) ≡ from_mark (a ++ b)
        → from_mark (cond t (x ∷ a) (from_mark a) ++ b) ≡ cond t (x ∷ (a ++ b)) (from_mark (a ++ b))
    by true e later = rw e refl
    by false e later = later

-- nor does once more, at the end
pub mark_once : (a : List ℕ) → from_mark (from_mark a) ≡ from_mark a
mark_once a = simp append-nil at (mark_twice a [])

-- bytes behind a first 81h come behind what starts there
pub mark_append : (a b : List ℕ) → 0 < length (from_mark a) → from_mark (a ++ b) ≡ from_mark a ++ b
mark_append a b h =
    sym (mark_twice a b) ∙ mark_first (from_mark a ++ b) (get_or-append (from_mark a) b 0 0 h ∙ mark_there a h)

-- bytes that decide: a length outside its range, or a whole packet at the front
pub record Decides (q : List ℕ) : Type 0 where
  pub long : 3 ≤ length q
  pub start : get_or q 0 0 ≡ start_of DataPacket
  pub full : permitted DataPacket (length_of q) ≡ true → length_of q + 5 ≤ length q

-- what they say
abbrev pub front_judged : Request → List ℕ → Judgement
front_judged r q = cond (permitted DataPacket (length_of q)) (packet_judged r (first_packet q)) WrongReply

module _ (r : Request) where
  -- whether they are just a packet, or more
  pub judged_front : (q : List ℕ) → Decides q → judged_at r q (progress_of DataPacket q) ≡ front_judged r q
  unfolding progress_of measured_of judged_at
  judged_front q d =
      let e : length q ≡ 0 → ⊥ = λ z. omega (arith, d.long) in
      simp (ne_eqb _ _ e, eq-eqb _ _ d.start, le-ltb _ _ d.long)
      (by (permitted DataPacket (length_of q)) (eqb (length q) (length_of q + 5)) (λ p. le-ltb _ _ (d.full p)))
    where
      by : (fits exact : Bool) → (fits ≡ true → ltb (length q) (length_of q + 5) ≡ false)
          → judged_at r q (cond (not fits) Unfit (cond (ltb (length q) (length_of q + 5)) Partial (cond exact Complete Excess)))
          ≡ cond fits (packet_judged r (first_packet q)) WrongReply
      by false exact f = refl
      by true true f = rw (f refl) refl
      by true false f = rw (f refl) refl

  -- and that is a verdict
  pub judged_answers : (n res first : ℕ) → is_unanswered (judged_by r n res first) ≡ false
  unfolding judged_by
  judged_answers n res first = by (grants (due_for r) (number_for r) n res first) (denies (number_for r) n res first)
    where
      by : (yes' no' : Bool) → is_unanswered (cond yes' Passed (cond no' (Refused first) WrongReply)) ≡ false
      by true no' = refl
      by false true = refl
      by false false = refl

  pub front_answers : (q : List ℕ) → is_unanswered (front_judged r q) ≡ false
  unfolding packet_judged
  front_answers q = by (permitted DataPacket (length_of q)) (ends_well (first_packet q)) _ (judged_answers _ _ _)
    where
      by : (fits well : Bool) (v : Judgement) → is_unanswered v ≡ false → is_unanswered (cond fits (cond well v WrongReply) WrongReply) ≡ false
      by false well v e = refl
      by true false v e = refl
      by true true v e = e

  -- more bytes do not change it
  pub front_stays : (q more : List ℕ) → Decides q → front_judged r (q ++ more) ≡ front_judged r q
  front_stays q more d =
      rw (← front_says q more d.long) (by (permitted DataPacket (length_of q)) d.full)
    where
      by : (fits : Bool) → (fits ≡ true → length_of q + 5 ≤ length q)
          → cond fits (packet_judged r (take (length_of q + 5) (q ++ more))) WrongReply
          ≡ cond fits (packet_judged r (take (length_of q + 5) q)) WrongReply
      by false f = refl
      by true f = rw (take-append-le (length_of q + 5) q more (f refl)) refl

-- nor that they decide
pub decides_still : (q more : List ℕ) → Decides q → Decides (q ++ more)
decides_still q more d =
    let l = length-append q more in
    record {
      long = omega (arith, d.long);
      start = get_or-append q more 0 0 (omega (arith, d.long)) ∙ d.start;
      full = λ p. rw (← front_says q more d.long) (omega (arith, d.full (rw (front_says q more d.long) p)));
    }

-- the packet at the front, where its length is permitted
module _ (q : List ℕ) (d : Decides q) (p : permitted DataPacket (length_of q) ≡ true) where
  front_length : length (first_packet q) ≡ length_of q + 5
  front_length = length-take-le (length_of q + 5) q (d.full p)

  pub front_says_as : length_of (first_packet q) ≡ length_of q
  front_says_as =
      front_says (first_packet q) (drop (length_of q + 5) q) (omega (arith, front_length)) ∙ ap length_of (take-append-drop (length_of q + 5) q)

  pub front_complete : Whole DataPacket (first_packet q)
  front_complete =
      record {
        start = get_or-take (length_of q + 5) q 0 0 (omega arith) ∙ d.start;
        permits = rw front_says_as p;
        count = rw front_says_as front_length;
      }

-- bytes from 81h on are part of a packet, or they decide
pub part_or_decides : (q : List ℕ) → from_mark q ≡ q → (progress_of DataPacket q ≡ Partial) ⊎ Decides q
part_or_decides q m = by (ltb (length q) 3) refl (permitted DataPacket (length_of q)) refl (ltb (length q) (length_of q + 5)) refl
  where
    start : 0 < length q → get_or q 0 0 ≡ start_of DataPacket
    start h = rw (← m) (mark_there q (rw m h))

    by : (short : Bool) → ltb (length q) 3 ≡ short → (fits : Bool) → permitted DataPacket (length_of q) ≡ fits
        → (early : Bool) → ltb (length q) (length_of q + 5) ≡ early → (progress_of DataPacket q ≡ Partial) ⊎ Decides q
    by true s fits f early e =
        let l : length q < 3 = ltb-true (length q) 3 s in
        inl (partial DataPacket q (record { start = start; permits = λ h. absurd (omega arith); count = λ h. absurd (omega arith) }))
    by false s true f true e =
        inl (partial DataPacket q (record { start = start; permits = λ h. f; count = λ h. ltb-true (length q) (length_of q + 5) e }))
    by false s true f false e =
        let l : 3 ≤ length q = ltb-false (length q) 3 s in
        inr (record { long = l; start = start (omega arith); full = λ p. ltb-false (length q) (length_of q + 5) e })
    by false s false f early e =
        let l : 3 ≤ length q = ltb-false (length q) 3 s in
        inr (record { long = l; start = start (omega arith); full = λ p. impossible (cc) })

-- what bytes that came back say, in the two cases
module _ (r : Request) (bytes : List ℕ) where
  pub says_open : progress_of DataPacket (from_mark bytes) ≡ Partial → judgement_of r bytes ≡ Unanswered
  unfolding judgement_of judged_at
  says_open p = rw p refl

  pub says_front : Decides (from_mark bytes) → judgement_of r bytes ≡ front_judged r (from_mark bytes)
  unfolding judgement_of
  says_front d = judged_front r (from_mark bytes) d

  pub open_or_front : (progress_of DataPacket (from_mark bytes) ≡ Partial) ⊎ Decides (from_mark bytes)
  open_or_front = part_or_decides (from_mark bytes) (mark_once bytes)
