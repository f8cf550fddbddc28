-- Each verdict exactly: the bytes that it is the verdict on, said without the judge. Assumes nothing.
use Rattle.std.proofs.Common.{◌≡◌, ℕ, suc, ◌+◌, ◌-◌, ◌<◌, ◌≤◌, Bool, true, false, cond, not, ◌&&◌, eqb, ◌↔◌, List, [], ◌∷◌, ◌++◌, length, get_or, take, drop, sym, refl, ap, ◌∙◌, subst, ⊎_elim, arith, length-drop, take-append-drop, get_or-drop, take_all, get_or-take, take_at, eq-eqb, ne_eqb, eqb-true, le-leb}
use mathlib.Core.Bool.{and-false}
use lib.ListN.{get_or-append}
use lib.Seq.{take-append_seam, drop-append_seam}
use borrow.Author.Tests.{eqb-false, not-true}
use Rattle.numbers.specs.Bytes.{number, AllBytes}
use Rattle.numbers.proofs.RoundTrip.{all_drop, all_take}
use Rattle.packet.specs.declared.Kind.TheVariants.{Data as DataPacket}
use Rattle.packet.specs.declared.Progress.TheVariants.{Partial, Complete}
use Rattle.packet.specs.Packet.{start_of, length_of, permitted, progress_of, ends_well, contents_of, frame}
use Rattle.packet.proofs.Laws.{impossible, both, permitted_least}
use Rattle.packet.proofs.Gathering.{Whole, held, whole, complete, front_says}
use Rattle.packet.proofs.Frames.{frame_complete, frame_ends_well, frame_contents, whole_frame}
use Rattle.packet.proofs.There.{contents_whole}
use Rattle.packet_fields.specs.Fields.{code_at}
use Rattle.packet_reply.specs.Reply.{marked}
use Rattle.host_request.specs.declared.Request.{Request}
use Rattle.host_request.specs.declared.Request.TheVariants.{Inquiry, Erase, Write, Read, Authenticate, Baud, Signature, Area, WriteData, Next}
use Rattle.host_request.specs.Request.{number_for}
use Rattle.host_judge.specs.declared.Due.{Due}
use Rattle.host_judge.specs.declared.Due.TheVariants.{Status, Data, Nothing}
use Rattle.host_judge.specs.declared.Judgement.{Judgement}
use Rattle.host_judge.specs.declared.Judgement.TheVariants.{Unanswered, Passed, Refused, WrongReply}
use Rattle.host_judge.specs.Reply.{judgement_number, is_unanswered, due_for, grants, denies, judged_by, from_mark, first_packet, packet_judged, judgement_of}
use Rattle.host_judge.specs.Meaning.{Quiet, FirstPacket, OnlyPart, Granting, GrantIn, RefusalIn, FirstGrants, FirstRefuses, FirstWrong, unfit_length, wrong_end, other_contents, Means}
use Rattle.host_judge.proofs.Deciding.{mark_first, mark_skips, skipped, Decides, front_judged, front_answers, front_stays, decides_still, front_complete, says_open, says_front, open_or_front}
use Rattle.host_judge.proofs.Keeping.{length_bytes_lem}
use Rattle.host_judge.proofs.There.{due_range}
use Rattle.host_judge.proofs.Tracking.{judged_alike}

-- the first packet among bytes

-- noise is skipped
from_quiet : (noise l : List ℕ) → Quiet noise → from_mark (noise ++ l) ≡ from_mark l
from_quiet [] l h = refl
from_quiet (b ∷ noise) l h = mark_skips b (noise ++ l) (h 0 (omega arith)) ∙ from_quiet noise l (λ i k. h (suc i) (omega arith))

-- part of a packet starts with 81h
part_mark : (q : List ℕ) → progress_of DataPacket q ≡ Partial → from_mark q ≡ q
unfolding from_mark
part_mark [] p = refl
part_mark (b ∷ q) p = mark_first (b ∷ q) ((held DataPacket (b ∷ q) p).start (omega arith))

-- so the bytes from 81h on start with the first packet, and what they start with comes first
pub from_first : (bytes q : List ℕ) (f : FirstPacket bytes q) → 0 < length q → get_or q 0 0 ≡ start_of DataPacket → from_mark bytes ≡ q ++ f.more
from_first bytes q f some start =
    ap from_mark f.parts
    ∙ from_quiet f.noise (q ++ f.more) f.quiet
    ∙ mark_first (q ++ f.more) (get_or-append q f.more 0 0 some ∙ start)

pub first_from : (bytes q more : List ℕ) → from_mark bytes ≡ q ++ more → FirstPacket bytes q
first_from bytes q more e =
    let s = skipped bytes in
    record { noise = s.noise; more = more; parts = s.parts ∙ ap (λ (l : List ℕ). s.noise ++ l) e; quiet = s.quiet }

-- a whole packet that comes first is the packet at the front from 81h on
pub first_packet_lem : (bytes q : List ℕ) → FirstPacket bytes q → Whole DataPacket q → first_packet (from_mark bytes) ≡ q
first_packet_lem bytes q f w =
    let m : from_mark bytes ≡ q ++ f.more = from_first bytes q f (omega (arith, w.count)) w.start in
    let l : length_of (q ++ f.more) ≡ length_of q = sym (front_says q f.more (omega (arith, w.count))) in
    ap first_packet m ∙ rw l (take_at q f.more (length_of q + 5) w.count)

-- the verdict on a whole packet, by its contents
abbrev contents_judged : Request → List ℕ → Judgement
contents_judged r contents = judged_by r (length contents) (get_or contents 0 0) (get_or contents 1 0)

module _ (r : Request) (q : List ℕ) (e : progress_of DataPacket q ≡ Complete) where
  -- an entry of the contents
  contents_at : (i : ℕ) → i < length_of q → get_or (contents_of q) i 0 ≡ get_or q (3 + i) 0
  contents_at i h = get_or-take (length_of q) (drop 3 q) i 0 h ∙ get_or-drop 3 q i 0

  -- ETX and SUM before them
  whole_judged : packet_judged r q ≡ cond (ends_well q) (contents_judged r (contents_of q)) WrongReply
  unfolding packet_judged
  whole_judged =
      let w = whole DataPacket q e in
      let n : length (contents_of q) ≡ length_of q = contents_whole DataPacket q e in
      let c : get_or (contents_of q) 0 0 ≡ code_at q = contents_at 0 (omega (arith, permitted_least DataPacket (length_of q) w.permits)) in
      rw (n, c, by (eqb (length_of q) 2) refl) refl
    where
      by : (two : Bool) → eqb (length_of q) 2 ≡ two
          → judged_by r (length_of q) (code_at q) (get_or q 4 0) ≡ judged_by r (length_of q) (code_at q) (get_or (contents_of q) 1 0)
      by false z = judged_alike r (length_of q) (code_at q) _ _ (eqb-false (length_of q) 2 z)
      by true z = ap (judged_by r (length_of q) (code_at q)) (sym (contents_at 1 (omega (arith, eqb-true (length_of q) 2 z))))

-- what decides is what comes first
first_decides : (r : Request) (bytes q : List ℕ) → FirstPacket bytes q → Decides q → judgement_of r bytes ≡ front_judged r q
first_decides r bytes q f d =
    let m : from_mark bytes ≡ q ++ f.more = from_first bytes q f (omega (arith, d.long)) d.start in
    says_front r bytes (rw m (decides_still q f.more d)) ∙ ap (front_judged r) m ∙ front_stays r q f.more d

-- a whole packet, by ETX, SUM and contents
first_judged : (r : Request) (bytes q : List ℕ) → FirstPacket bytes q → progress_of DataPacket q ≡ Complete
    → judgement_of r bytes ≡ cond (ends_well q) (contents_judged r (contents_of q)) WrongReply
first_judged r bytes q f e =
    let w = whole DataPacket q e in
    let t : take (length_of q + 5) q ≡ q = take_all (length_of q + 5) q (omega (arith, w.count)) in
    first_decides r bytes q f (record { long = omega (arith, w.count); start = w.start; full = λ p. omega (arith, w.count) })
    ∙ rw (w.permits, t) (whole_judged r q e)

-- a good packet, by its contents
frame_judged : (r : Request) (bytes contents : List ℕ) → FirstPacket bytes (frame DataPacket contents) → permitted DataPacket (length contents) ≡ true
    → judgement_of r bytes ≡ contents_judged r contents
frame_judged r bytes contents f p =
    first_judged r bytes (frame DataPacket contents) f (frame_complete DataPacket contents p)
    ∙ rw (frame_ends_well DataPacket contents, frame_contents DataPacket contents p) refl

-- bytes that decide, in three cases
data Came (bytes : List ℕ) : Type 0 where
  unfit_came : (high low : ℕ) → FirstPacket bytes (start_of DataPacket ∷ high ∷ low ∷ []) → permitted DataPacket (number (high ∷ low ∷ [])) ≡ false
      → Came bytes
  bad_came : (q : List ℕ) → FirstPacket bytes q → progress_of DataPacket q ≡ Complete → ends_well q ≡ false → Came bytes
  good_came : (contents : List ℕ) → FirstPacket bytes (frame DataPacket contents) → permitted DataPacket (length contents) ≡ true → Came bytes

-- bytes from 81h on are bytes
mark_bytes : (bytes : List ℕ) → AllBytes bytes → AllBytes (from_mark bytes)
unfolding from_mark AllBytes
mark_bytes [] all = tt
mark_bytes (b ∷ bytes) all = by (eqb b (start_of DataPacket)) (mark_bytes bytes all.1)
  where
    by : (t : Bool) → AllBytes (from_mark bytes) → AllBytes (cond t (b ∷ bytes) (from_mark bytes))
    by true later = all
    by false later = later

-- a list from its first three on
three_of : (l : List ℕ) → 3 ≤ length l → l ≡ get_or l 0 0 ∷ get_or l 1 0 ∷ get_or l 2 0 ∷ drop 3 l
three_of [] h = absurd (omega arith)
three_of (x ∷ []) h = absurd (omega arith)
three_of (x ∷ y ∷ []) h = absurd (omega arith)
three_of (x ∷ y ∷ z ∷ l) h = refl

-- bytes that decide are in one of the cases
came_as : (bytes : List ℕ) → AllBytes bytes → Decides (from_mark bytes) → Came bytes
came_as bytes all d = by (permitted DataPacket (length_of (from_mark bytes))) refl
  where
    q : List ℕ
    q = first_packet (from_mark bytes)

    first : FirstPacket bytes q
    first =
        let n : ℕ = length_of (from_mark bytes) + 5 in
        first_from bytes q (drop n (from_mark bytes)) (sym (take-append-drop n (from_mark bytes)))

    by_end : progress_of DataPacket q ≡ Complete → (well : Bool) → ends_well q ≡ well → Came bytes
    by_end c false e = bad_came q first c e
    by_end c true e =
        let b : AllBytes q = all_take (length_of (from_mark bytes) + 5) (from_mark bytes) (mark_bytes bytes all) in
        let k : q ≡ frame DataPacket (contents_of q) = whole_frame DataPacket q b c e in
        let p : permitted DataPacket (length (contents_of q)) ≡ true = rw (contents_whole DataPacket q c) (whole DataPacket q c).permits in
        good_came (contents_of q) (subst (FirstPacket bytes) k first) p

    by : (fits : Bool) → permitted DataPacket (length_of (from_mark bytes)) ≡ fits → Came bytes
    by false p =
        let m : List ℕ = from_mark bytes in
        let h : m ≡ (start_of DataPacket ∷ get_or m 1 0 ∷ get_or m 2 0 ∷ []) ++ drop 3 m = three_of m d.long ∙ rw d.start refl in
        let f = first_from bytes (start_of DataPacket ∷ get_or m 1 0 ∷ get_or m 2 0 ∷ []) (drop 3 m) h in
        unfit_came (get_or m 1 0) (get_or m 2 0) f (rw (← length_bytes_lem m d.long) p)
    by true p = by_end (complete DataPacket q (front_complete (from_mark bytes) d p)) (ends_well q) refl

-- contents that grant or refuse

-- RES of a refusal is never RES of a grant
marked_other : (r : Request) → marked (number_for r) ≡ number_for r → ⊥
marked_other Inquiry e = omega arith
marked_other (Erase s l) e = omega arith
marked_other (Write s l) e = omega arith
marked_other (Read s l) e = omega arith
marked_other Authenticate e = omega arith
marked_other (Baud brt) e = omega arith
marked_other Signature e = omega arith
marked_other (Area number) e = omega arith
marked_other WriteData e = omega arith
marked_other (Next left) e = omega arith

-- the tests of contents
abbrev grants_in : Due → ℕ → List ℕ → Bool
grants_in due number contents = grants due number (length contents) (get_or contents 0 0) (get_or contents 1 0)

abbrev denies_in : ℕ → List ℕ → Bool
denies_in number contents = denies number (length contents) (get_or contents 0 0) (get_or contents 1 0)

-- contents that grant what is due to a number
record Behind (due : Due) (number : ℕ) (contents : List ℕ) : Type 0 where
  behind : List ℕ
  is : contents ≡ number ∷ behind
  meets : Granting due behind

-- a list of two, and one of at least one, by its entries
two_of : (contents : List ℕ) → length contents ≡ 2 → contents ≡ get_or contents 0 0 ∷ get_or contents 1 0 ∷ []
two_of [] e = absurd (omega arith)
two_of (x ∷ []) e = absurd (omega arith)
two_of (x ∷ y ∷ []) e = refl
two_of (x ∷ y ∷ z ∷ l) e = absurd (omega arith)

one_of : (contents : List ℕ) (n : ℕ) → length contents ≡ n + 1 → contents ≡ get_or contents 0 0 ∷ drop 1 contents
one_of [] n e = absurd (omega arith)
one_of (x ∷ l) n e = refl

-- the test says that they do, passes those that do, and fails under another RES
grants_told : (due : Due) (number : ℕ) (contents : List ℕ) → grants_in due number contents ≡ true → Behind due number contents
unfolding grants
grants_told Status number contents e =
    let t = both (eqb (length contents) 2) (eqb (get_or contents 0 0) number && eqb (get_or contents 1 0) 0) e in
    let u = both (eqb (get_or contents 0 0) number) (eqb (get_or contents 1 0) 0) t.1 in
    let k = two_of contents (eqb-true (length contents) 2 t.0) in
    let a : get_or contents 0 0 ≡ number = eqb-true (get_or contents 0 0) number u.0 in
    let b : get_or contents 1 0 ≡ 0 = eqb-true (get_or contents 1 0) 0 u.1 in
    record { behind = 0 ∷ []; is = k ∙ cc; meets = refl }
grants_told (Data n) number contents e =
    let t = both (eqb (length contents) (n + 1)) (eqb (get_or contents 0 0) number) e in
    let l : length contents ≡ n + 1 = eqb-true (length contents) (n + 1) t.0 in
    let a : get_or contents 0 0 ≡ number = eqb-true (get_or contents 0 0) number t.1 in
    record { behind = drop 1 contents; is = one_of contents n l ∙ ap (λ (x : ℕ). x ∷ drop 1 contents) a; meets = rw length-drop (omega arith) }
grants_told Nothing number contents e = impossible (cc)

grants_so : (due : Due) (number : ℕ) (behind : List ℕ) → Granting due behind → grants_in due number (number ∷ behind) ≡ true
unfolding grants
grants_so Status number behind g = rw (g, eq-eqb number number refl) refl
grants_so (Data n) number behind g =
    let l : length (number ∷ behind) ≡ n + 1 = omega arith in
    rw (eq-eqb (length (number ∷ behind)) (n + 1) l, eq-eqb number number refl) refl
grants_so Nothing number behind g = absurd g

grants_other : (due : Due) (number n res first : ℕ) → (res ≡ number → ⊥) → grants due number n res first ≡ false
unfolding grants
grants_other Status number n res first h = rw (ne_eqb res number h) (and-false (eqb n 2))
grants_other (Data count) number n res first h = rw (ne_eqb res number h) (and-false (eqb n (count + 1)))
grants_other Nothing number n res first h = refl

-- what the verdict on contents says of them, and which have it
module _ (r : Request) (contents : List ℕ) where
  abbrev yes_test : Bool
  yes_test = grants_in (due_for r) (number_for r) contents

  abbrev no_test : Bool
  no_test = denies_in (number_for r) contents

  -- the verdict by the two tests
  judged_tests : contents_judged r contents ≡ cond yes_test Passed (cond no_test (Refused (get_or contents 1 0)) WrongReply)
  unfolding judged_by
  judged_tests = refl

  -- passed
  contents_granted : contents_judged r contents ≡ Passed → GrantIn r contents
  contents_granted e = by yes_test refl no_test (sym judged_tests ∙ e)
    where
      by : (t : Bool) → yes_test ≡ t → (u : Bool) → cond t Passed (cond u (Refused (get_or contents 1 0)) WrongReply) ≡ Passed → GrantIn r contents
      by true t u e =
          let b = grants_told (due_for r) (number_for r) contents t in
          record { behind = b.behind; is = b.is; due = b.meets }
      by false t true e = impossible (cc)
      by false t false e = impossible (cc)

  granted_contents : GrantIn r contents → contents_judged r contents ≡ Passed
  granted_contents g = judged_tests ∙ rw (g.is, grants_so (due_for r) (number_for r) g.behind g.due) refl

  -- refused
  denied : (code : ℕ) → no_test ≡ true → code ≡ get_or contents 1 0 → RefusalIn r code contents
  unfolding denies
  denied code t e =
      let x : ℕ = get_or contents 0 0 in
      let y : ℕ = get_or contents 1 0 in
      let t = both (eqb (length contents) 2) (eqb x (marked (number_for r)) && not (eqb y 0)) t in
      let u = both (eqb x (marked (number_for r))) (not (eqb y 0)) t.1 in
      let n : y ≡ 0 → ⊥ = eqb-false y 0 (not-true (eqb y 0) u.1) in
      let a : x ≡ marked (number_for r) = eqb-true x (marked (number_for r)) u.0 in
      record { is = two_of contents (eqb-true (length contents) 2 t.0) ∙ rw (a, e) refl; some = λ z. n (sym e ∙ z) }

  contents_refused : (code : ℕ) → contents_judged r contents ≡ Refused code → RefusalIn r code contents
  contents_refused code e = by yes_test no_test refl (sym judged_tests ∙ e)
    where
      by : (t u : Bool) → no_test ≡ u → cond t Passed (cond u (Refused (get_or contents 1 0)) WrongReply) ≡ Refused code → RefusalIn r code contents
      by true u n e = impossible (cc)
      by false true n e = denied code n (cc)
      by false false n e = impossible (cc)

  refused_contents : (code : ℕ) → RefusalIn r code contents → contents_judged r contents ≡ Refused code
  unfolding denies
  refused_contents code g =
      let n : grants (due_for r) (number_for r) 2 (marked (number_for r)) code ≡ false =
      grants_other (due_for r) (number_for r) 2 (marked (number_for r)) code (marked_other r) in
      let m : ℕ = marked (number_for r) in
      judged_tests ∙ rw g.is (rw (n, eq-eqb m m refl, ne_eqb code 0 g.some) refl)

  -- a wrong reply
  neither_contents : (GrantIn r contents → ⊥) → ((code : ℕ) → RefusalIn r code contents → ⊥) → contents_judged r contents ≡ WrongReply
  neither_contents no-grant no-refusal = by yes_test refl no_test refl
    where
      by : (t : Bool) → yes_test ≡ t → (u : Bool) → no_test ≡ u → contents_judged r contents ≡ WrongReply
      by true t u n = absurd (no-grant (contents_granted (judged_tests ∙ rw t refl)))
      by false t true n = absurd (no-refusal (get_or contents 1 0) (denied (get_or contents 1 0) n refl))
      by false t false n = judged_tests ∙ rw (t, n) refl

-- what a first packet that was passed has in it
pub passed_contents : (r : Request) (bytes q : List ℕ) → FirstPacket bytes q → progress_of DataPacket q ≡ Complete → judgement_of r bytes ≡ Passed
    → GrantIn r (contents_of q)
passed_contents r bytes q f c e = by (ends_well q) (sym (first_judged r bytes q f c) ∙ e)
  where
    by : (well : Bool) → cond well (contents_judged r (contents_of q)) WrongReply ≡ Passed → GrantIn r (contents_of q)
    by true e = contents_granted r (contents_of q) e
    by false e = impossible (cc)

-- contents of a permitted length
few_permitted : (n : ℕ) → 1 ≤ n → n ≤ 1025 → permitted DataPacket n ≡ true
unfolding permitted
few_permitted n h k = rw (le-leb 1 n h, le-leb n 1025 k) refl

-- so are those that grant or refuse
pub grant_permitted : (r : Request) (contents : List ℕ) → GrantIn r contents → permitted DataPacket (length contents) ≡ true
grant_permitted r contents g = by (due_for r) refl g.due
  where
    by : (due : Due) → due_for r ≡ due → Granting due g.behind → permitted DataPacket (length contents) ≡ true
    by Status e d = rw (g.is, d) (few_permitted 2 (omega arith) (omega arith))
    by (Data n) e d = rw g.is (few_permitted (length (number_for r ∷ g.behind)) (omega arith) (omega (arith, (due_range r n e).1)))
    by Nothing e d = absurd d

refusal_permitted : (r : Request) (code : ℕ) (contents : List ℕ) → RefusalIn r code contents → permitted DataPacket (length contents) ≡ true
refusal_permitted r code contents g = rw g.is (few_permitted 2 (omega arith) (omega arith))

-- the verdicts

module _ (r : Request) (bytes : List ℕ) where
  -- a verdict is given to bytes that decide
  decided_bytes : (v : Judgement) → is_unanswered v ≡ false → judgement_of r bytes ≡ v → Decides (from_mark bytes)
  decided_bytes v n e = ⊎_elim by (λ d. d) (open_or_front r bytes)
    where
      by : progress_of DataPacket (from_mark bytes) ≡ Partial → Decides (from_mark bytes)
      by p =
          let u : is_unanswered v ≡ true = ap is_unanswered (sym e ∙ says_open r bytes p) in
          impossible (cc)

  -- a length that is refused, and a wrong end
  unfit_judged : (high low : ℕ) → FirstPacket bytes (start_of DataPacket ∷ high ∷ low ∷ []) → permitted DataPacket (number (high ∷ low ∷ [])) ≡ false
      → judgement_of r bytes ≡ WrongReply
  unfolding length_of
  unfit_judged high low f p =
      let q : List ℕ = start_of DataPacket ∷ high ∷ low ∷ [] in
      first_decides r bytes q f (record { long = omega arith; start = refl; full = λ t. impossible (cc) }) ∙ rw p refl

  bad_judged : (q : List ℕ) → FirstPacket bytes q → progress_of DataPacket q ≡ Complete → ends_well q ≡ false → judgement_of r bytes ≡ WrongReply
  bad_judged q f c e = first_judged r bytes q f c ∙ rw e refl

  -- a grant that comes first is passed
  pub grant_passes : FirstGrants r bytes → judgement_of r bytes ≡ Passed
  grant_passes g =
      frame_judged r bytes g.contents g.first (grant_permitted r g.contents g.grant) ∙ granted_contents r g.contents g.grant

  -- nothing is answered: there is no 81h, or from the first on there is part of a packet
  pub unanswered_exactly : (judgement_of r bytes ≡ Unanswered) ↔ (progress_of DataPacket (from_mark bytes) ≡ Partial)
  unanswered_exactly = (λ e. ⊎_elim (λ p. p) (by e) (open_or_front r bytes), says_open r bytes)
    where
      by : judgement_of r bytes ≡ Unanswered → Decides (from_mark bytes) → progress_of DataPacket (from_mark bytes) ≡ Partial
      by e d =
          let u : true ≡ false = ap is_unanswered (sym e ∙ says_front r bytes d) ∙ front_answers r (from_mark bytes) in
          impossible (cc)

  -- the same, of the bytes themselves
  pub unanswered_part : (judgement_of r bytes ≡ Unanswered) ↔ OnlyPart bytes
  unanswered_part = (λ e. by (unanswered_exactly.0 e), λ o. unanswered_exactly.1 (back o))
    where
      by : progress_of DataPacket (from_mark bytes) ≡ Partial → OnlyPart bytes
      by p = let s = skipped bytes in record { noise = s.noise; held = from_mark bytes; parts = s.parts; quiet = s.quiet; part = p }

      back : OnlyPart bytes → progress_of DataPacket (from_mark bytes) ≡ Partial
      back o = rw (ap from_mark o.parts ∙ from_quiet o.noise o.held o.quiet ∙ part_mark o.held o.part) o.part

  module _ (all : AllBytes bytes) where
    -- passed: a good packet comes first, RES is the request's number, and what is due stands behind it
    pub passed_exactly : (judgement_of r bytes ≡ Passed) ↔ FirstGrants r bytes
    passed_exactly = (λ e. by e (came_as bytes all (decided_bytes Passed refl e)), grant_passes)
      where
        by : judgement_of r bytes ≡ Passed → Came bytes → FirstGrants r bytes
        by e (unfit_came high low f p) = let w = unfit_judged high low f p in impossible (cc)
        by e (bad_came q f c x) = let w = bad_judged q f c x in impossible (cc)
        by e (good_came contents f p) =
            record { contents = contents; first = f; grant = contents_granted r contents (sym (frame_judged r bytes contents f p) ∙ e) }

    -- refused: a good packet comes first, RES is the request's number with bit 7, and a code that is not 0 is all behind it
    pub refused_exactly : (code : ℕ) → (judgement_of r bytes ≡ Refused code) ↔ FirstRefuses r code bytes
    refused_exactly code = (λ e. by e (came_as bytes all (decided_bytes (Refused code) refl e)), back)
      where
        by : judgement_of r bytes ≡ Refused code → Came bytes → FirstRefuses r code bytes
        by e (unfit_came high low f p) = let w = unfit_judged high low f p in impossible (cc)
        by e (bad_came q f c x) = let w = bad_judged q f c x in impossible (cc)
        by e (good_came contents f p) =
            record { contents = contents; first = f; refusal = contents_refused r contents code (sym (frame_judged r bytes contents f p) ∙ e) }

        back : FirstRefuses r code bytes → judgement_of r bytes ≡ Refused code
        back g =
            frame_judged r bytes g.contents g.first (refusal_permitted r code g.contents g.refusal)
            ∙ refused_contents r g.contents code g.refusal

    -- a wrong reply: its length is refused, its end is wrong, or it is a good packet that neither grants nor refuses
    pub wrong_exactly : (judgement_of r bytes ≡ WrongReply) ↔ FirstWrong r bytes
    wrong_exactly = (λ e. by e (came_as bytes all (decided_bytes WrongReply refl e)), back)
      where
        by : judgement_of r bytes ≡ WrongReply → Came bytes → FirstWrong r bytes
        by e (unfit_came high low f p) = unfit_length high low f p
        by e (bad_came q f c x) = wrong_end q f c x
        by e (good_came contents f p) =
            let w : contents_judged r contents ≡ WrongReply = sym (frame_judged r bytes contents f p) ∙ e in
            other_contents contents f p
            (λ g. let v = granted_contents r contents g in impossible (cc))
            (λ code g. let v = refused_contents r contents code g in impossible (cc))

        back : FirstWrong r bytes → judgement_of r bytes ≡ WrongReply
        back (unfit_length high low f p) = unfit_judged high low f p
        back (wrong_end q f c x) = bad_judged q f c x
        back (other_contents contents f p n m) = frame_judged r bytes contents f p ∙ neither_contents r contents n m

    -- each verdict is given to the bytes that it means, and to no others
    pub means_exactly : (v : Judgement) → (judgement_of r bytes ≡ v) ↔ Means r bytes v
    means_exactly Unanswered = unanswered_part
    means_exactly Passed = passed_exactly
    means_exactly (Refused code) = refused_exactly code
    means_exactly WrongReply = wrong_exactly

    -- one of the four holds, and only one
    pub one_of_four : Means r bytes (judgement_of r bytes) × ((v : Judgement) → Means r bytes v → v ≡ judgement_of r bytes)
    one_of_four = ((means_exactly (judgement_of r bytes)).0 refl, λ v m. sym ((means_exactly v).1 m))

-- bytes of the first packet are bytes
first_bytes : (bytes q : List ℕ) → FirstPacket bytes q → AllBytes bytes → AllBytes q
first_bytes bytes q f all =
    let d : drop (length f.noise) bytes ≡ q ++ f.more = ap (drop (length f.noise)) f.parts ∙ drop-append_seam f.noise (q ++ f.more) in
    let t : take (length q) (drop (length f.noise) bytes) ≡ q = ap (take (length q)) d ∙ take-append_seam q f.more in
    subst AllBytes t (all_take (length q) _ (all_drop (length f.noise) bytes all))

-- a code is a byte, and not 0
pub refused_code : (r : Request) (bytes : List ℕ) → AllBytes bytes → (code : ℕ) → judgement_of r bytes ≡ Refused code → (1 ≤ code) × (code < 256)
unfolding AllBytes
refused_code r bytes all code e =
    let g = (refused_exactly r bytes all code).0 e in
    let p = refusal_permitted r code g.contents g.refusal in
    let q : List ℕ = frame DataPacket g.contents in
    let c : AllBytes (contents_of q) = all_take (length_of q) (drop 3 q) (all_drop 3 q (first_bytes bytes q g.first all)) in
    let d : AllBytes (marked (number_for r) ∷ code ∷ []) = subst AllBytes (frame_contents DataPacket g.contents p ∙ g.refusal.is) c in
    (omega (arith, g.refusal.some), d.1.0)

-- the verdict of a number
judgement_back : ℕ → Judgement
judgement_back n = cond (eqb n 0) Unanswered (cond (eqb n 1) Passed (cond (eqb n 2) WrongReply (Refused (n - 256))))

-- no other has it
number_back_again : (v : Judgement) → judgement_back (judgement_number v) ≡ v
unfolding judgement_back
number_back_again Unanswered = refl
number_back_again Passed = refl
number_back_again WrongReply = refl
number_back_again (Refused code) =
    let n : ℕ = 256 + code in
    let k : n - 256 ≡ code = omega arith in
    rw (ne_eqb n 0 (λ z. omega arith), ne_eqb n 1 (λ z. omega arith), ne_eqb n 2 (λ z. omega arith), k) refl

-- no two verdicts share a number, and 0 is only that nothing was answered
pub judgement_one_number : (v w : Judgement) → judgement_number v ≡ judgement_number w → v ≡ w
judgement_one_number v w e = sym (number_back_again v) ∙ ap judgement_back e ∙ number_back_again w

pub number_unanswered : (v : Judgement) → judgement_number v ≡ 0 → v ≡ Unanswered
number_unanswered v e = judgement_one_number v Unanswered e
