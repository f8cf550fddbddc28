-- The judge byte by byte: what it knows is what the bytes from 81h on say, and its verdict is theirs. Assumes nothing.
use Rattle.std.proofs.Common.{◌≡◌, ℕ, ◌+◌, ◌-◌, ◌%◌, ◌<◌, ◌≤◌, Bool, true, false, cond, not, ◌&&◌, eqb, leb, List, [], ◌∷◌, ◌++◌, length, get_or, drop, sym, refl, ap, ◌∙◌, arith, length-append, length-drop, take_all, take_at, le-ltb, eq-eqb, ne_eqb, eqb-true, le-leb, leb-false, leb-true}
use lib.ListN.{get_or-append}
use lib.Seq.{drop-append-le, get_or_at}
use borrow.Author.Tests.{eqb-false, not-true, not-false}
use Rattle.verdict.specs.declared.Reason.TheVariants.{WrongEtx, WrongSum}
use Rattle.verdict.specs.Check.{◌gives◌, first_fault, passes}
use Rattle.packet.specs.declared.Kind.TheVariants.{Data as DataPacket}
use Rattle.packet.specs.declared.Progress.TheVariants.{Partial, Unfit, Complete}
use Rattle.packet.specs.Packet.{start_of, length_of, permitted, progress_of, sum_of, etx_of, summed, ending_checks, ends_well}
use Rattle.packet.proofs.Laws.{impossible, both}
use Rattle.packet.proofs.Gathering.{held, partial, Whole, complete, unfit, front_says}
use Rattle.packet_fields.specs.Fields.{code_at}
use Rattle.host_request.specs.declared.Request.{Request}
use Rattle.host_request.specs.Request.{number_for}
use Rattle.host_judge.specs.declared.Due.{Due}
use Rattle.host_judge.specs.declared.Due.TheVariants.{Status, Data, Nothing}
use Rattle.host_judge.specs.declared.Judgement.TheVariants.{Unanswered, WrongReply}
use Rattle.host_judge.specs.declared.Reply.{Reply}
use Rattle.host_judge.specs.declared.Judge.{Judge}
use Rattle.host_judge.specs.Reply.{due_for, grants, denies, judged_by, from_mark, first_packet, packet_judged, judged_at}
use Rattle.host_judge.specs.Judge.{fresh_judge, length_in, with_count, grown, begun, advanced, last_judged, finished, heard_byte}
use Rattle.host_judge.proofs.Deciding.{mark_first}
use Rattle.host_judge.proofs.Keeping.{length_bytes, Keeps, length_bytes_lem, keeps_none, keeps_mark, length_told, keeps_more, keeps_last, data_there}

-- a judge of a request, the bytes from 81h on that it took being q
pub record Tracks (r : Request) (q : List ℕ) (j : Judge) : Type 0 where
  pub request : j.request ≡ r
  pub says : j.judgement ≡ judged_at r q (progress_of DataPacket q)
  pub start : from_mark q ≡ q
  pub most : length q ≤ length_bytes q + 5
  pub keeps : Keeps q j.reply
  pub sum : progress_of DataPacket q ≡ Partial → j.reply.sum ≡ sum_of (drop 1 q) % 256

-- before any byte
pub tracks_none : (r : Request) → Tracks r [] (fresh_judge r)
unfolding judged_at progress_of from_mark sum_of
tracks_none r = record { request = refl; says = refl; start = refl; most = omega arith; keeps = keeps_none; sum = λ p. refl }

-- 81h or noise, where nothing came before
module _ (r : Request) (j : Judge) (t : Tracks r [] j) (b : ℕ) where
  -- the byte is looked at alone
  heard_none : heard_byte j b ≡ begun j b
  unfolding heard_byte
  heard_none = rw (eq-eqb j.reply.count 0 t.keeps.count) refl

  -- by whether it is 81h
  begun_tracks : (m : Bool) → eqb b (start_of DataPacket) ≡ m
      → Tracks r (cond m (b ∷ []) []) (record { request = j.request; judgement = j.judgement; reply = cond m (with_count 1 j.reply) j.reply })
  unfolding judged_at progress_of sum_of
  begun_tracks false e = t
  begun_tracks true e =
      let s : b ≡ start_of DataPacket = eqb-true b (start_of DataPacket) e in
      let p : progress_of DataPacket (b ∷ []) ≡ Partial =
      partial DataPacket (b ∷ []) (record { start = λ h. s; permits = λ h. absurd (omega arith); count = λ h. absurd (omega arith) }) in
      record {
        request = t.request;
        says = t.says ∙ sym (ap (judged_at r (b ∷ [])) p);
        start = mark_first (b ∷ []) s;
        most = omega arith;
        keeps = keeps_mark b j.reply t.keeps;
        sum = λ p. t.sum refl;
      }

  -- either way
  tracks_first : Tracks r (from_mark (b ∷ [])) (heard_byte j b)
  unfolding from_mark
  tracks_first = rw heard_none (begun_tracks (eqb b (start_of DataPacket)) refl)

-- SUM and ETX by the last byte and the sum before it
ends_tests : (q : List ℕ) (b : ℕ) → 1 ≤ length q → ends_well (q ++ b ∷ []) ≡ (eqb b 0x03 && eqb (sum_of (drop 1 q) % 256) 0)
unfolding ends_well ending_checks first_fault
ends_tests q b h =
    let n = length-append q (b ∷ []) in
    let i : length (q ++ b ∷ []) - 1 ≡ length q = omega arith in
    let x : etx_of (q ++ b ∷ []) ≡ b = rw i (get_or_at q b [] 0 (length q) refl) in
    let l : length (drop 1 q) ≡ length (q ++ b ∷ []) - 2 = rw length-drop (omega arith) in
    let s : summed (q ++ b ∷ []) ≡ drop 1 q = rw (drop-append-le 1 q (b ∷ []) h) (take_at (drop 1 q) (b ∷ []) (length (q ++ b ∷ []) - 2) l) in
    let m : 2 ≤ length (q ++ b ∷ []) = omega arith in
    rw (x, s, le-ltb _ _ m) (by (eqb b 0x03) (eqb (sum_of (drop 1 q) % 256) 0))
  where
    by : (etx sum : Bool) → passes (first_fault (((not etx) gives WrongEtx) ∷ ((not sum) gives WrongSum) ∷ [])) ≡ (etx && sum)
    by true true = refl
    by true false = refl
    by false sum = refl

-- the byte behind RES counts only where the length is 2
grants_alike : (due : Due) (number n res first other : ℕ) → (n ≡ 2 → ⊥) → grants due number n res first ≡ grants due number n res other
unfolding grants
grants_alike Status number n res first other h = rw (ne_eqb n 2 h) refl
grants_alike (Data count) number n res first other h = refl
grants_alike Nothing number n res first other h = refl

-- for the verdict too
pub judged_alike : (r : Request) (n res first other : ℕ) → (n ≡ 2 → ⊥) → judged_by r n res first ≡ judged_by r n res other
unfolding judged_by denies
judged_alike r n res first other h = rw (ne_eqb n 2 h, grants_alike (due_for r) (number_for r) n res first other h) refl

-- one byte more in a sum
sum_more : (l : List ℕ) (b : ℕ) → sum_of (l ++ b ∷ []) ≡ sum_of l + b
unfolding sum_of
sum_more [] b = omega arith
sum_more (x ∷ l) b = omega (arith, sum_more l b)

-- a byte behind 81h
module _ (r : Request) (q : List ℕ) (j : Judge) (t : Tracks r q j) (some : 1 ≤ length q) (part : progress_of DataPacket q ≡ Partial) (b : ℕ) where
  -- it comes behind 81h, and nothing is decided
  started : get_or q 0 0 ≡ start_of DataPacket
  started = (held DataPacket q part).start some

  start_more : get_or (q ++ b ∷ []) 0 0 ≡ start_of DataPacket
  start_more = get_or-append q (b ∷ []) 0 0 some ∙ started

  longer : length (q ++ b ∷ []) ≡ length q + 1
  longer = length-append q (b ∷ [])

  undecided : j.judgement ≡ Unanswered
  unfolding judged_at
  undecided = t.says ∙ ap (judged_at r q) part

  -- the last is the one behind SUM
  abbrev is_last : Bool
  is_last = leb 3 j.reply.count && leb (length_in j.reply + 4) j.reply.count

  -- which it is says what becomes of it
  heard_by : (last : Bool) → is_last ≡ last → heard_byte j b ≡ cond last (finished j b) (advanced j (grown j.reply b))
  unfolding heard_byte
  heard_by last e =
      let z : j.reply.count ≡ 0 → ⊥ = λ z. omega (arith, t.keeps.count) in
      rw (ne_eqb j.reply.count 0 z, e) refl

  -- its place, and that of any other
  last_place : is_last ≡ true → (3 ≤ length q) × (length q ≡ length_bytes q + 4)
  last_place e =
      let c = t.keeps.count in
      let n = length_told q j.reply t.keeps in
      let x = both (leb 3 j.reply.count) (leb (length_in j.reply + 4) j.reply.count) e in
      let l : 3 ≤ length q = omega (arith, leb-true 3 j.reply.count x.0) in
      let m : length_bytes q + 4 ≤ length q = omega (arith, leb-true (length_in j.reply + 4) j.reply.count x.1) in
      (l, omega (arith, (held DataPacket q part).count l, length_bytes_lem q l))

  last_not : is_last ≡ false → 3 ≤ length q → length q < length_bytes q + 4
  last_not e l =
      let c = t.keeps.count in
      let n = length_told q j.reply t.keeps in
      let h : 3 ≤ j.reply.count = omega arith in
      omega (arith, leb-false (length_in j.reply + 4) j.reply.count (rw (le-leb 3 j.reply.count h) at e))

  -- where the length came before it, it stays
  module _ (l : 3 ≤ length q) where
    says_more : length_of (q ++ b ∷ []) ≡ length_bytes q
    says_more = sym (front_says q (b ∷ []) l) ∙ length_bytes_lem q l

    permits_more : permitted DataPacket (length_of (q ++ b ∷ [])) ≡ true
    permits_more = rw (← front_says q (b ∷ []) l) ((held DataPacket q part).permits l)

  -- ETX
  module _ (last : is_last ≡ true) where
    -- the packet is whole
    whole_last : Whole DataPacket (q ++ b ∷ [])
    whole_last =
        let l = last_place last in
        record { start = start_more; permits = permits_more l.0; count = omega (arith, longer, l.1, says_more l.0) }

    -- what is kept of the byte behind RES judges as that byte does
    first_last : (n res : ℕ) → n ≡ length_bytes q → judged_by r n res (get_or j.reply.first 0 0) ≡ judged_by r n res (get_or (q ++ b ∷ []) 4 0)
    first_last n res e = by (eqb n 2) refl
      where
        by : (two : Bool) → eqb n 2 ≡ two → judged_by r n res (get_or j.reply.first 0 0) ≡ judged_by r n res (get_or (q ++ b ∷ []) 4 0)
        by false z = judged_alike r n res _ _ (eqb-false n 2 z)
        by true z =
            let l = last_place last in
            let h : 0 < length_bytes q - 1 = omega (arith, eqb-true n 2 z) in
            ap (judged_by r n res)
            (t.keeps.first 0 (omega arith) ∙ data_there q 0 h ∙ sym (get_or-append q (b ∷ []) 0 4 (omega arith)))

    -- so the verdict is the packet's
    judged_last : last_judged j.request j.reply b ≡ packet_judged r (q ++ b ∷ [])
    unfolding packet_judged
    judged_last =
        let l = last_place last in
        let n : length_in j.reply ≡ length_of (q ++ b ∷ []) = length_told q j.reply t.keeps ∙ sym (says_more l.0) in
        let c : j.reply.res ≡ code_at (q ++ b ∷ []) = t.keeps.res ∙ sym (get_or-append q (b ∷ []) 0 3 (omega arith)) in
        rw (t.sum part, ends_tests q b some, t.request, n, c, first_last (length_of (q ++ b ∷ [])) (code_at (q ++ b ∷ [])) (says_more l.0)) refl

    -- what the judge knows then
    tracks_last : Tracks r (q ++ b ∷ []) (finished j b)
    unfolding judged_at
    tracks_last =
        let l = last_place last in
        let p : progress_of DataPacket (q ++ b ∷ []) ≡ Complete = complete DataPacket (q ++ b ∷ []) whole_last in
        let f : first_packet (q ++ b ∷ []) ≡ q ++ b ∷ [] = take_all (length_of (q ++ b ∷ []) + 5) (q ++ b ∷ []) (omega (arith, whole_last.count)) in
        record {
          request = t.request;
          says = rw (p, f) judged_last;
          start = mark_first (q ++ b ∷ []) start_more;
          most = omega (arith, whole_last.count, length_bytes_lem (q ++ b ∷ []) (omega (arith, longer)));
          keeps = keeps_last q j.reply t.keeps b l.1;
          sum = λ e. impossible (cc);
        }

  -- any other
  module _ (not_last : is_last ≡ false) where
    -- what is kept then
    abbrev next : Reply
    next = grown j.reply b

    next_keeps : Keeps (q ++ b ∷ []) next
    next_keeps = keeps_more q j.reply t.keeps b

    next_sum : next.sum ≡ sum_of (drop 1 (q ++ b ∷ [])) % 256
    unfolding grown
    next_sum = rw (drop-append-le 1 q (b ∷ []) some) (omega (arith, t.sum part, sum_more (drop 1 q) b))

    next_says : 3 ≤ length (q ++ b ∷ []) → length_in next ≡ length_of (q ++ b ∷ [])
    next_says l = length_told (q ++ b ∷ []) next next_keeps ∙ sym (length_bytes_lem (q ++ b ∷ []) l)

    -- the length is there, and is refused
    abbrev is_bad : Bool
    is_bad = eqb next.count 3 && not (permitted DataPacket (length_in next))

    -- then it decides, and otherwise the packet is still not whole
    bad_unfit : is_bad ≡ true → progress_of DataPacket (q ++ b ∷ []) ≡ Unfit
    bad_unfit e =
        let x = both (eqb next.count 3) (not (permitted DataPacket (length_in next))) e in
        let c : length (q ++ b ∷ []) ≡ 3 = sym next_keeps.count ∙ eqb-true next.count 3 x.0 in
        let l : 3 ≤ length (q ++ b ∷ []) = omega arith in
        unfit DataPacket (q ++ b ∷ []) l start_more (rw (← next_says l) (not-true (permitted DataPacket (length_in next)) x.1))

    still_part : is_bad ≡ false → progress_of DataPacket (q ++ b ∷ []) ≡ Partial
    still_part e =
        partial DataPacket (q ++ b ∷ []) (record {
          start = λ h. start_more;
          permits = λ h. permits h (leb 3 (length q)) refl;
          count = λ h. count h (leb 3 (length q)) refl;
        })
      where
        permits : 3 ≤ length (q ++ b ∷ []) → (long : Bool) → leb 3 (length q) ≡ long → permitted DataPacket (length_of (q ++ b ∷ [])) ≡ true
        permits h true l = permits_more (leb-true 3 (length q) l)
        permits h false l =
            let c : next.count ≡ 3 = omega (arith, longer, next_keeps.count, leb-false 3 (length q) l) in
            rw (← next_says h) (not-false (permitted DataPacket (length_in next)) (rw (eq-eqb next.count 3 c) at e))

        count : 3 ≤ length (q ++ b ∷ []) → (long : Bool) → leb 3 (length q) ≡ long → length (q ++ b ∷ []) < length_of (q ++ b ∷ []) + 5
        count h true l =
            let m : 3 ≤ length q = leb-true 3 (length q) l in
            omega (arith, longer, last_not not_last m, says_more m)
        count h false l = omega (arith, longer, leb-false 3 (length q) l)

    next_most : length (q ++ b ∷ []) ≤ length_bytes (q ++ b ∷ []) + 5
    next_most = by (leb 3 (length q)) refl
      where
        by : (long : Bool) → leb 3 (length q) ≡ long → length (q ++ b ∷ []) ≤ length_bytes (q ++ b ∷ []) + 5
        by true l =
            let m : 3 ≤ length q = leb-true 3 (length q) l in
            omega (arith, longer, last_not not_last m, says_more m, length_bytes_lem (q ++ b ∷ []) (omega (arith, longer)))
        by false l = omega (arith, longer, leb-false 3 (length q) l)

    -- what the judge knows then, in both cases
    tracks_next : Tracks r (q ++ b ∷ []) (advanced j next)
    unfolding judged_at
    tracks_next =
        record {
          request = t.request;
          says = by is_bad refl;
          start = mark_first (q ++ b ∷ []) start_more;
          most = next_most;
          keeps = next_keeps;
          sum = λ e. next_sum;
        }
      where
        by : (bad : Bool) → is_bad ≡ bad → cond bad WrongReply j.judgement ≡ judged_at r (q ++ b ∷ []) (progress_of DataPacket (q ++ b ∷ []))
        by true e = rw (bad_unfit e) refl
        by false e = rw (still_part e) undecided

  -- whichever it is
  tracks_some : Tracks r (q ++ b ∷ []) (heard_byte j b)
  tracks_some = by is_last refl
    where
      by : (last : Bool) → is_last ≡ last → Tracks r (q ++ b ∷ []) (heard_byte j b)
      by true e = rw (heard_by true e) (tracks_last e)
      by false e = rw (heard_by false e) (tracks_next e)

-- one byte more
pub tracks_byte : (r : Request) (q : List ℕ) (j : Judge) → Tracks r q j → progress_of DataPacket q ≡ Partial → (b : ℕ)
    → Tracks r (from_mark (q ++ b ∷ [])) (heard_byte j b)
tracks_byte r [] j t part b = tracks_first r j t b
tracks_byte r (x ∷ q) j t part b =
    let h : 1 ≤ length (x ∷ q) = omega arith in
    let m : from_mark (x ∷ q ++ b ∷ []) ≡ x ∷ q ++ b ∷ [] = mark_first _ (start_more r (x ∷ q) j t h part b) in
    rw m (tracks_some r (x ∷ q) j t h part b)
