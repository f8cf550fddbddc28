-- The judge that takes bytes as they come says what the definition says of all of them, however they are cut; it takes all bytes up to the one that
-- decides. Assumes nothing.
use Rattle.std.proofs.Common.{◌≡◌, ℕ, zero, suc, ◌+◌, ◌<◌, ◌≤◌, Bool, true, false, cond, ◌&&◌, eqb, leb, List, [], ◌∷◌, ◌++◌, length, take, drop, sym, refl, ap, ◌∙◌, ⊎_elim, append-nil, zero-add, add-one, arith, take-append-drop, take_all}
use lib.Seq.{append_snoc}
use Rattle.packet.specs.declared.Kind.TheVariants.{Data as DataPacket}
use Rattle.packet.specs.declared.Progress.TheVariants.{Partial}
use Rattle.packet.specs.Packet.{progress_of}
use Rattle.packet.proofs.Laws.{impossible}
use Rattle.host_request.specs.declared.Request.{Request}
use Rattle.host_judge.specs.declared.Judgement.{Judgement}
use Rattle.host_judge.specs.declared.Judgement.TheVariants.{Unanswered, Passed, Refused, WrongReply}
use Rattle.host_judge.specs.declared.Judge.{Judge}
use Rattle.host_judge.specs.Reply.{is_unanswered, from_mark, judgement_of}
use Rattle.host_judge.specs.Judge.{fresh_judge, length_in, begun, advanced, finished, grown, heard_byte, Heard, hearing_of}
use Rattle.host_judge.specs.Meaning.{joined, judge_after}
use Rattle.host_judge.proofs.Deciding.{mark_twice, Decides, front_judged, judged_front, front_answers, front_stays, decides_still, part_or_decides, mark_append, says_open, says_front, open_or_front}
use Rattle.host_judge.proofs.Tracking.{Tracks, tracks_none, tracks_byte}

-- hearing bytes, one after the other

-- what the test says
pub unanswered_so : (v : Judgement) → is_unanswered v ≡ true → v ≡ Unanswered
unanswered_so Unanswered e = refl
unanswered_so Passed e = impossible (cc)
unanswered_so (Refused code) e = impossible (cc)
unanswered_so WrongReply e = impossible (cc)

module _ (j : Judge) where
  -- a judge that decided takes nothing and stays
  pub taken_none : (bytes : List ℕ) → is_unanswered j.judgement ≡ false → hearing_of j bytes ≡ record { judge = j; count = 0 }
  unfolding hearing_of
  taken_none [] e = refl
  taken_none (b ∷ bytes) e = rw e refl

  module _ (b : ℕ) (bytes : List ℕ) (e : is_unanswered j.judgement ≡ true) where
    -- any other takes the next byte
    pub judge_next : (hearing_of j (b ∷ bytes)).judge ≡ (hearing_of (heard_byte j b) bytes).judge
    unfolding hearing_of
    judge_next = rw e refl

    pub count_next : (hearing_of j (b ∷ bytes)).count ≡ (hearing_of (heard_byte j b) bytes).count + 1
    unfolding hearing_of
    count_next = rw e refl

-- cutting makes no difference
pub judge_cut : (j : Judge) (a b : List ℕ) → (hearing_of j (a ++ b)).judge ≡ (hearing_of (hearing_of j a).judge b).judge
unfolding hearing_of
judge_cut j [] b = refl
judge_cut j (x ∷ a) b = by (is_unanswered j.judgement) refl (judge_cut (heard_byte j x) a b)
  where
    by : (t : Bool) → is_unanswered j.judgement ≡ t
        → (hearing_of (heard_byte j x) (a ++ b)).judge ≡ (hearing_of (hearing_of (heard_byte j x) a).judge b).judge
        → (hearing_of j (x ∷ a ++ b)).judge ≡ (hearing_of (hearing_of j (x ∷ a)).judge b).judge
    by true e later = rw (judge_next j x (a ++ b) e, judge_next j x a e) later
    by false e later = rw (taken_none j (x ∷ a ++ b) e, taken_none j (x ∷ a) e, taken_none j b e) refl

-- nor for how many are taken
pub count_cut : (j : Judge) (a b : List ℕ) → (hearing_of j (a ++ b)).count ≡ (hearing_of j a).count + (hearing_of (hearing_of j a).judge b).count
unfolding hearing_of
count_cut j [] b = sym (zero-add (hearing_of j b).count)
count_cut j (x ∷ a) b = by (is_unanswered j.judgement) refl (count_cut (heard_byte j x) a b)
  where
    by : (t : Bool) → is_unanswered j.judgement ≡ t
        → (hearing_of (heard_byte j x) (a ++ b)).count ≡ (hearing_of (heard_byte j x) a).count + (hearing_of (hearing_of (heard_byte j x) a).judge b).count
        → (hearing_of j (x ∷ a ++ b)).count ≡ (hearing_of j (x ∷ a)).count + (hearing_of (hearing_of j (x ∷ a)).judge b).count
    by true e later = rw (judge_next j x a e) (omega (arith, count_next j x (a ++ b) e, count_next j x a e))
    by false e later = rw (taken_none j (x ∷ a ++ b) e, taken_none j (x ∷ a) e, taken_none j b e) refl

-- several cuts make none
pub judge_cuts : (j : Judge) (cuts : List (List ℕ)) → judge_after j cuts ≡ (hearing_of j (joined cuts)).judge
unfolding judge_after joined hearing_of
judge_cuts j [] = refl
judge_cuts j (cut ∷ cuts) = judge_cuts (hearing_of j cut).judge cuts ∙ sym (judge_cut j cut (joined cuts))

-- no more bytes are taken than there are
pub taken_most : (j : Judge) (bytes : List ℕ) → (hearing_of j bytes).count ≤ length bytes
unfolding hearing_of
taken_most j [] = omega arith
taken_most j (b ∷ bytes) = by (is_unanswered j.judgement) refl (taken_most (heard_byte j b) bytes)
  where
    by : (t : Bool) → is_unanswered j.judgement ≡ t → (hearing_of (heard_byte j b) bytes).count ≤ length bytes
        → (hearing_of j (b ∷ bytes)).count ≤ suc (length bytes)
    by true e later = omega (arith, count_next j b bytes e)
    by false e later = omega (arith, ap (λ (x : Heard). x.count) (taken_none j (b ∷ bytes) e))

-- while nothing is decided, all are
pub taken_all : (j : Judge) (bytes : List ℕ) → (hearing_of j bytes).judge.judgement ≡ Unanswered → (hearing_of j bytes).count ≡ length bytes
unfolding hearing_of
taken_all j [] h = refl
taken_all j (b ∷ bytes) h = by (is_unanswered j.judgement) refl (taken_all (heard_byte j b) bytes)
  where
    by : (t : Bool) → is_unanswered j.judgement ≡ t
        → ((hearing_of (heard_byte j b) bytes).judge.judgement ≡ Unanswered → (hearing_of (heard_byte j b) bytes).count ≡ length bytes)
        → (hearing_of j (b ∷ bytes)).count ≡ suc (length bytes)
    by true e later = omega (arith, count_next j b bytes e, later (rw e at h))
    by false e later =
        let u : is_unanswered j.judgement ≡ true = ap is_unanswered (rw e at h) in
        impossible (cc)

-- the byte that decides is the last that is taken: before it nothing is decided
pub taken_first : (j : Judge) (bytes : List ℕ) (n : ℕ) → n < (hearing_of j bytes).count → (hearing_of j (take n bytes)).judge.judgement ≡ Unanswered
unfolding hearing_of
taken_first j [] n h = absurd (omega arith)
taken_first j (b ∷ bytes) n h = by (is_unanswered j.judgement) refl n h (taken_first (heard_byte j b) bytes)
  where
    by : (t : Bool) → is_unanswered j.judgement ≡ t → (n : ℕ) → n < (hearing_of j (b ∷ bytes)).count
        → ((m : ℕ) → m < (hearing_of (heard_byte j b) bytes).count → (hearing_of (heard_byte j b) (take m bytes)).judge.judgement ≡ Unanswered)
        → (hearing_of j (take n (b ∷ bytes))).judge.judgement ≡ Unanswered
    by true e zero h later = unanswered_so j.judgement e
    by true e (suc n) h later = rw (judge_next j b (take n bytes) e) (later n (omega (arith, count_next j b bytes e)))
    by false e n h later = absurd (omega (arith, ap (λ (x : Heard). x.count) (taken_none j (b ∷ bytes) e)))

-- a byte never changes the request
request_next : (j : Judge) (b : ℕ) → (heard_byte j b).request ≡ j.request
unfolding heard_byte
request_next j b =
    by (eqb j.reply.count 0) (leb 3 j.reply.count && leb (length_in j.reply + 4) j.reply.count)
  where
    by : (none last : Bool) → (cond {A = Judge} none (begun j b) (cond last (finished j b) (advanced j (grown j.reply b)))).request ≡ j.request
    by true last = refl
    by false true = refl
    by false false = refl

-- nor do many bytes
pub request_kept : (j : Judge) (bytes : List ℕ) → (hearing_of j bytes).judge.request ≡ j.request
unfolding hearing_of
request_kept j [] = refl
request_kept j (b ∷ bytes) = by (is_unanswered j.judgement) refl (request_kept (heard_byte j b) bytes)
  where
    by : (t : Bool) → is_unanswered j.judgement ≡ t → (hearing_of (heard_byte j b) bytes).judge.request ≡ (heard_byte j b).request
        → (hearing_of j (b ∷ bytes)).judge.request ≡ j.request
    by true e later = ap (λ (x : Judge). x.request) (judge_next j b bytes e) ∙ later ∙ request_next j b
    by false e later = ap (λ (x : Heard). x.judge.request) (taken_none j (b ∷ bytes) e)

-- the verdict

-- more bytes change no verdict
pub once_answered : (r : Request) (bytes more : List ℕ) → (judgement_of r bytes ≡ Unanswered → ⊥) → judgement_of r (bytes ++ more) ≡ judgement_of r bytes
once_answered r bytes more h = ⊎_elim (λ p. absurd (h (says_open r bytes p))) by (open_or_front r bytes)
  where
    by : Decides (from_mark bytes) → judgement_of r (bytes ++ more) ≡ judgement_of r bytes
    by d =
        let m : from_mark (bytes ++ more) ≡ from_mark bytes ++ more = mark_append bytes more (omega (arith, d.long)) in
        says_front r (bytes ++ more) (rw m (decides_still (from_mark bytes) more d))
        ∙ ap (front_judged r) m
        ∙ front_stays r (from_mark bytes) more d
        ∙ sym (says_front r bytes d)

-- a judge that decided nothing took part of a packet
pub tracks_part : (r : Request) (q : List ℕ) (j : Judge) → Tracks r q j → is_unanswered j.judgement ≡ true → progress_of DataPacket q ≡ Partial
tracks_part r q j t e = ⊎_elim (λ p. p) by (part_or_decides q t.start)
  where
    by : Decides q → progress_of DataPacket q ≡ Partial
    by d =
        let u : is_unanswered j.judgement ≡ false = ap is_unanswered (t.says ∙ judged_front r q d) ∙ front_answers r q in
        impossible (cc)

-- the judge tracks the bytes that it takes
pub tracks_taken : (r : Request) (q : List ℕ) (j : Judge) → Tracks r q j → (bytes : List ℕ)
    → Tracks r (from_mark (q ++ take (hearing_of j bytes).count bytes)) (hearing_of j bytes).judge
unfolding hearing_of
tracks_taken r q j t [] = rw (append-nil q, t.start) t
tracks_taken r q j t (b ∷ bytes) = by (is_unanswered j.judgement) refl (λ s. tracks_taken r (from_mark (q ++ b ∷ [])) (heard_byte j b) s bytes)
  where
    by : (u : Bool) → is_unanswered j.judgement ≡ u
        → (Tracks r (from_mark (q ++ b ∷ [])) (heard_byte j b)
        → Tracks r (from_mark (from_mark (q ++ b ∷ []) ++ take (hearing_of (heard_byte j b) bytes).count bytes))
        (hearing_of (heard_byte j b) bytes).judge)
        → Tracks r (from_mark (q ++ take (hearing_of j (b ∷ bytes)).count (b ∷ bytes))) (hearing_of j (b ∷ bytes)).judge
    by true e later =
        let n : ℕ = (hearing_of (heard_byte j b) bytes).count in
        let s = later (tracks_byte r q j t (tracks_part r q j t e) b) in
        rw (e, add-one n, ← append_snoc q b (take n bytes), ← mark_twice (q ++ b ∷ []) (take n bytes)) s
    by false e later = rw (e, append-nil q, t.start) t

-- its verdict is what the definition says of all the bytes
pub judge_says : (r : Request) (bytes : List ℕ) → (hearing_of (fresh_judge r) bytes).judge.judgement ≡ judgement_of r bytes
unfolding judgement_of
judge_says r bytes = by (is_unanswered said) refl
  where
    said : Judgement
    said = (hearing_of (fresh_judge r) bytes).judge.judgement

    count : ℕ
    count = (hearing_of (fresh_judge r) bytes).count

    taken : said ≡ judgement_of r (take count bytes)
    taken = (tracks_taken r [] (fresh_judge r) (tracks_none r) bytes).says

    by : (u : Bool) → is_unanswered said ≡ u → said ≡ judgement_of r bytes
    by true e =
        let n : length bytes ≤ count = omega (arith, taken_all (fresh_judge r) bytes (unanswered_so said e)) in
        taken ∙ ap (judgement_of r) (take_all count bytes n)
    by false e =
        let d : judgement_of r (take count bytes) ≡ Unanswered → ⊥ =
        λ z. let u : is_unanswered said ≡ true = ap is_unanswered (taken ∙ z) in impossible (cc) in
        taken ∙ sym (once_answered r (take count bytes) (drop count bytes) d) ∙ ap (judgement_of r) (take-append-drop count bytes)

-- so is the verdict of a judge that was given them in cuts
pub cuts_say : (r : Request) (cuts : List (List ℕ)) → (judge_after (fresh_judge r) cuts).judgement ≡ judgement_of r (joined cuts)
cuts_say r cuts = ap (λ (j : Judge). j.judgement) (judge_cuts (fresh_judge r) cuts) ∙ judge_says r (joined cuts)
