-- The data across cuts: the parts that the judge tells, joined, are the data of the reply, and its first bytes are kept. Assumes nothing.
use Rattle.std.proofs.Common.{◌≡◌, ℕ, zero, suc, ◌+◌, ◌-◌, ◌<◌, ◌≤◌, min, Bool, true, false, cond, leb, List, [], ◌∷◌, ◌++◌, length, take, drop, sym, refl, ap, ◌∙◌, subst, ⊎_elim, append_assoc, append-nil, add-zero, arith, length-append, length-drop, take-append-drop, drop_of_length-le, length-take-le, take_all, get_or-take, take_at, ext_get_or, leb-false, leb-true}
use native.Mathlib.Nat.{sub-zero, zero-sub, suc-sub-suc}
use lib.Seq.{take-length, take-nil, drop-nil, take-append-le, drop-append-le, take-append-add, drop-append-add}
use Rattle.numbers.specs.Bytes.{bytes_of}
use Rattle.packet.specs.declared.Kind.TheVariants.{Data as DataPacket}
use Rattle.packet.specs.declared.Progress.TheVariants.{Partial, Complete}
use Rattle.packet.specs.Packet.{length_of, permitted, progress_of, lack, counted, frame}
use Rattle.packet.proofs.Laws.{impossible}
use Rattle.packet.proofs.Gathering.{Whole, whole, complete}
use Rattle.packet.proofs.Frames.{frame_length, frame_complete}
use Rattle.packet.proofs.There.{complete_least, contents_whole}
use Rattle.packet_fields.specs.Fields.{info_of}
use Rattle.packet_fields.proofs.Laws.{info_whole}
use Rattle.host_request.specs.declared.Request.{Request}
use Rattle.host_request.specs.Request.{number_for}
use Rattle.host_judge.specs.declared.Due.{Due}
use Rattle.host_judge.specs.declared.Due.TheVariants.{Data}
use Rattle.host_judge.specs.declared.Judgement.TheVariants.{Unanswered, Passed, WrongReply}
use Rattle.host_judge.specs.declared.Judge.{Judge}
use Rattle.host_judge.specs.Reply.{is_unanswered, due_for, from_mark, first_packet, packet_judged, judged_at, judgement_of}
use Rattle.host_judge.specs.Judge.{fresh_judge, length_in, data_end, Heard, hearing_of, place_in, taken_of}
use Rattle.host_judge.specs.Meaning.{FirstPacket, Granting, GrantIn, joined, judge_after, part_told, collected_from}
use Rattle.host_judge.proofs.Deciding.{skipped, mark_twice, mark_append, Decides, judged_front, part_or_decides}
use Rattle.host_judge.proofs.Keeping.{length_bytes, data_in, length_bytes_lem, length_stays, length_told}
use Rattle.host_judge.proofs.Tracking.{Tracks, tracks_none}
use Rattle.host_judge.proofs.Verdicts.{taken_most, taken_all, taken_none, count_cut, judge_says, cuts_say, tracks_taken, unanswered_so}
use Rattle.host_judge.proofs.Exactly.{first_from, first_packet_lem, passed_contents, grant_permitted, grant_passes}

-- places

-- without the lower of two
place_is : (t c at : ℕ) → place_in t c at ≡ t - (c - at)
place_is t c at = omega arith

-- data begins before it ends, and ends within what was taken
place_order : (t c k : ℕ) → place_in t c 4 ≤ place_in t c (4 + k)
place_order t c k = rw (place_is t c 4, place_is t c (4 + k)) (omega arith)

place_most : (t c at : ℕ) → place_in t c at ≤ t
place_most t c at = omega arith

-- the bytes that are told to be data are among those that were taken, whatever the judge knew
pub part_inside : (j : Judge) (bytes : List ℕ) → ((taken_of j bytes).from ≤ (taken_of j bytes).to) × ((taken_of j bytes).to ≤ (taken_of j bytes).count)
part_inside j bytes =
    let h = hearing_of j bytes in
    let y = h.judge.reply in
    (place_order h.count y.count (length_in y - 1), place_most h.count y.count (data_end y))

-- less on both sides
less_both : (a b c : ℕ) → a ≤ b → a - c ≤ b - c
less_both a b c h = omega arith

-- s bytes behind the first f, of which at most k are data
place_data : (f s k : ℕ) → f + s - (s - k) - f ≡ min k s
place_data f s k = omega arith

-- t bytes behind d bytes of data
place_more : (d t k : ℕ) → t - (d + t - k) ≡ min (k - d) t
place_more d t k = omega arith

-- lists in two parts

-- so many of two, or all but so many
take_append : (n : ℕ) (a b : List ℕ) → take n (a ++ b) ≡ take n a ++ take (n - length a) b
take_append n [] b = rw (sub-zero n, take-nil {A = ℕ} n) refl
take_append zero (x ∷ a) b = rw (zero-sub (suc (length a))) refl
take_append (suc n) (x ∷ a) b = rw (suc-sub-suc n (length a)) (ap (λ (l : List ℕ). x ∷ l) (take_append n a b))

drop_append : (n : ℕ) (a b : List ℕ) → drop n (a ++ b) ≡ drop n a ++ drop (n - length a) b
drop_append n [] b = rw (sub-zero n, drop-nil {A = ℕ} n) refl
drop_append zero (x ∷ a) b = rw (zero-sub (suc (length a))) refl
drop_append (suc n) (x ∷ a) b = rw (suc-sub-suc n (length a)) (drop_append n a b)

-- as many as there are
take_some : (m : ℕ) (l : List ℕ) → take (min m (length l)) l ≡ take m l
take_some m l = by (leb m (length l)) refl
  where
    by : (t : Bool) → leb m (length l) ≡ t → take (min m (length l)) l ≡ take m l
    by true e =
        let k : min m (length l) ≡ m = omega (arith, leb-true m (length l) e) in
        rw k refl
    by false e =
        let h : length l ≤ m = omega (arith, leb-false m (length l) e) in
        let k : min m (length l) ≡ length l = omega arith in
        rw k (take-length l ∙ sym (take_all m l h))

-- behind the end there is nothing
take_past : (m n : ℕ) (l : List ℕ) → length l ≤ n → take m (drop n l) ≡ []
take_past m n l h = rw (drop_of_length-le l h) (take-nil m)

-- the part of a list told by places, where c bytes came, t of them now, and data is at most k bytes
abbrev told_part : ℕ → ℕ → ℕ → List ℕ → List ℕ
told_part t c k l = take (place_in t c (4 + k) - place_in t c 4) (drop (place_in t c 4) l)

-- it by its start and its length
told_at : (t c k f m : ℕ) (l : List ℕ) → t - (c - 4) ≡ f → t - (c - (4 + k)) - f ≡ m → told_part t c k l ≡ take m (drop f l)
told_at t c k f m l e d = rw (place_is t c 4, place_is t c (4 + k), e, d) refl

module _ (k : ℕ) where
  -- bytes that were not taken do not matter
  told_front : (c : ℕ) (u rest : List ℕ) → told_part (length u) c k (u ++ rest) ≡ told_part (length u) c k u
  told_front c u rest =
      let from : ℕ = place_in (length u) c 4 in
      let to : ℕ = place_in (length u) c (4 + k) in
      let m : to - from ≤ length (drop from u) = rw length-drop (less_both to (length u) from (place_most (length u) c (4 + k))) in
      rw (drop-append-le from u rest (place_most (length u) c 4)) (take-append-le (to - from) (drop from u) rest m)

  -- where data has not begun, there is none
  told_none : (c : ℕ) (u : List ℕ) → c ≤ 4 → told_part (length u) c k u ≡ []
  told_none c u h =
      let t : ℕ = length u in
      let e : t - (c - 4) ≡ t = omega arith in
      told_at t c k t (t - (c - (4 + k)) - t) u e refl ∙ take_past (t - (c - (4 + k)) - t) t u (omega arith)

  -- where it begins behind the first f bytes
  told_from : (c f s : ℕ) (u : List ℕ) → length u ≡ f + s → c ≡ 4 + s → told_part (length u) c k u ≡ take k (drop f u)
  told_from c f s u l e =
      let a : length u - (c - 4) ≡ f = omega arith in
      let x : c - (4 + k) ≡ s - k = omega arith in
      let n : length (drop f u) ≡ s = rw length-drop (omega arith) in
      let b : length u - (c - (4 + k)) - f ≡ min k (length (drop f u)) = rw (l, x, n) (place_data f s k) in
      told_at (length u) c k f (min k (length (drop f u))) u a b ∙ take_some k (drop f u)

  -- where it began d bytes before
  told_on : (c d : ℕ) (u : List ℕ) → c ≡ 4 + d + length u → told_part (length u) c k u ≡ take (k - d) u
  told_on c d u e =
      let t : ℕ = length u in
      let a : t - (c - 4) ≡ 0 = omega arith in
      let x : c - (4 + k) ≡ d + t - k = omega arith in
      let b : t - (c - (4 + k)) - 0 ≡ min (k - d) t = rw x (sub-zero _ ∙ place_more d t k) in
      told_at t c k 0 (min (k - d) t) u a b ∙ take_some (k - d) u

  -- bytes that came behind others
  told_behind : (q u : List ℕ) → told_part (length u) (length q + length u) k u ≡ take (k - (length q - 4)) (drop (4 - length q) u)
  told_behind q u = by (leb (length q) 4) refl (leb (length q + length u) 4) refl
    where
      n : ℕ
      n = length q

      by : (early : Bool) → leb n 4 ≡ early → (none : Bool) → leb (n + length u) 4 ≡ none
          → told_part (length u) (n + length u) k u ≡ take (k - (n - 4)) (drop (4 - n) u)
      by early e true x =
          let h : n + length u ≤ 4 = leb-true (n + length u) 4 x in
          told_none (n + length u) u h ∙ sym (take_past (k - (n - 4)) (4 - n) u (omega arith))
      by true e false x =
          let h : n ≤ 4 = leb-true n 4 e in
          let m : 4 < n + length u = leb-false (n + length u) 4 x in
          let z : k - (n - 4) ≡ k = omega arith in
          rw z (told_from (n + length u) (4 - n) (length u - (4 - n)) u (omega arith) (omega arith))
      by false e false x =
          let h : 4 < n = leb-false n 4 e in
          let z : 4 - n ≡ 0 = omega arith in
          rw z (told_on (n + length u) (n - 4) u (omega arith))

  -- bytes that came behind noise
  told_quiet : (noise q : List ℕ) → told_part (length (noise ++ q)) (length q) k (noise ++ q) ≡ take k (drop 4 q)
  told_quiet noise q = by (leb (length q) 4) refl
    where
      by : (none : Bool) → leb (length q) 4 ≡ none → told_part (length (noise ++ q)) (length q) k (noise ++ q) ≡ take k (drop 4 q)
      by true x = told_none (length q) (noise ++ q) (leb-true (length q) 4 x) ∙ sym (take_past k 4 q (leb-true (length q) 4 x))
      by false x =
          let h : 4 < length q = leb-false (length q) 4 x in
          let l = length-append noise q in
          told_from (length q) (length noise + 4) (length q - 4) (noise ++ q) (omega arith) (omega arith)
          ∙ ap (take k) (drop-append-add noise q 4)

-- the data that came, with what a cut adds to it

-- the length may come later than the bytes in q: there is no data then
data_by : (q u : List ℕ) → take (length_bytes (q ++ u) - 1) (drop 4 q) ≡ data_in q
data_by q u = by (leb 3 (length q)) refl
  where
    by : (known : Bool) → leb 3 (length q) ≡ known → take (length_bytes (q ++ u) - 1) (drop 4 q) ≡ data_in q
    by true e = rw (length_stays q u (leb-true 3 (length q) e)) refl
    by false e =
        let h : length q ≤ 4 = omega (arith, leb-false 3 (length q) e) in
        take_past (length_bytes (q ++ u) - 1) 4 q h ∙ sym (take_past (length_bytes q - 1) 4 q h)

-- what comes behind bytes, and behind noise
data_behind : (q u : List ℕ) → data_in (q ++ u) ≡ data_in q ++ told_part (length u) (length (q ++ u)) (length_bytes (q ++ u) - 1) u
data_behind q u =
    let k : ℕ = length_bytes (q ++ u) - 1 in
    ap (take k) (drop_append 4 q u)
    ∙ take_append k (drop 4 q) (drop (4 - length q) u)
    ∙ rw (data_by q u, length-drop 4 q, length-append q u, told_behind k q u) refl

told_noise : (k : ℕ) (noise q u : List ℕ) → u ≡ noise ++ q → told_part (length u) (length q) k u ≡ take k (drop 4 q)
told_noise k noise q u e = rw e (told_quiet k noise q)

data_quiet : (u : List ℕ) → data_in (from_mark u) ≡ told_part (length u) (length (from_mark u)) (length_bytes (from_mark u) - 1) u
data_quiet u = let s = skipped u in sym (told_noise (length_bytes (from_mark u) - 1) s.noise (from_mark u) u s.parts)

-- for any bytes that start with 81h, or none
data_more : (q u : List ℕ) → from_mark q ≡ q
    → data_in (from_mark (q ++ u)) ≡ data_in q ++ told_part (length u) (length (from_mark (q ++ u))) (length_bytes (from_mark (q ++ u)) - 1) u
data_more [] u m = rw (take-nil {A = ℕ} (length_bytes [] - 1)) (data_quiet u)
data_more (x ∷ q) u m =
    let h : 0 < length (from_mark (x ∷ q)) = rw m (omega arith) in
    let e : from_mark (x ∷ q ++ u) ≡ x ∷ q ++ u = mark_append (x ∷ q) u h ∙ ap (λ (l : List ℕ). l ++ u) m in
    rw e (data_behind (x ∷ q) u)

module _ (r : Request) (q : List ℕ) (j : Judge) (t : Tracks r q j) (cut : List ℕ) where
  abbrev taken : List ℕ
  taken = take (hearing_of j cut).count cut

  -- what the judge tells, in the places of the bytes that it took
  part_is : part_told (taken_of j cut) cut ≡ told_part (length taken) (length (from_mark (q ++ taken))) (length_bytes (from_mark (q ++ taken)) - 1) taken
  part_is =
      let n : ℕ = (hearing_of j cut).count in
      let y = (hearing_of j cut).judge.reply in
      let p : List ℕ = from_mark (q ++ taken) in
      let k = (tracks_taken r q j t cut).keeps in
      let l : n ≡ length taken = sym (length-take-le n cut (taken_most j cut)) in
      ap (λ (c : ℕ). told_part n c (length_in y - 1) cut) k.count
      ∙ ap (λ (m : ℕ). told_part n (length p) (m - 1) cut) (length_told p y k)
      ∙ ap (λ (s : List ℕ). told_part n (length p) (length_bytes p - 1) s) (sym (take-append-drop n cut))
      ∙ ap (λ (m : ℕ). told_part m (length p) (length_bytes p - 1) (taken ++ drop n cut)) l
      ∙ told_front (length_bytes p - 1) (length p) taken (drop n cut)

  -- the data grows by what the judge tells
  data_next : data_in (from_mark (q ++ taken)) ≡ data_in q ++ part_told (taken_of j cut) cut
  data_next = data_more q taken t.start ∙ ap (λ (l : List ℕ). data_in q ++ l) (sym part_is)

-- what is taken of bytes in two cuts
taken_cut : (j : Judge) (a b : List ℕ)
    → take (hearing_of j (a ++ b)).count (a ++ b) ≡ take (hearing_of j a).count a ++ take (hearing_of (hearing_of j a).judge b).count b
taken_cut j a b = rw (count_cut j a b) (by (is_unanswered (hearing_of j a).judge.judgement) refl)
  where
    n : ℕ
    n = (hearing_of j a).count

    m : ℕ
    m = (hearing_of (hearing_of j a).judge b).count

    by : (u : Bool) → is_unanswered (hearing_of j a).judge.judgement ≡ u → take (n + m) (a ++ b) ≡ take n a ++ take m b
    by true e =
        let l : n ≡ length a = taken_all j a (unanswered_so (hearing_of j a).judge.judgement e) in
        rw l (take-append-add a b m ∙ ap (λ (s : List ℕ). s ++ take m b) (sym (take-length a)))
    by false e =
        let z : m ≡ 0 = ap (λ (h : Heard). h.count) (taken_none (hearing_of j a).judge b e) in
        rw (z, add-zero n, append-nil (take n a)) (take-append-le n a b (taken_most j a))

module _ (r : Request) where
  -- the parts are the data of what was taken
  told_all : (cuts : List (List ℕ)) (q : List ℕ) (j : Judge) → Tracks r q j
      → data_in q ++ collected_from j cuts ≡ data_in (from_mark (q ++ take (hearing_of j (joined cuts)).count (joined cuts)))
  unfolding collected_from joined hearing_of
  told_all [] q j t = rw (append-nil (data_in q), append-nil q, t.start) refl
  told_all (cut ∷ cuts) q j t =
      let u : List ℕ = take (hearing_of j cut).count cut in
      let j' = (hearing_of j cut).judge in
      let v : List ℕ = take (hearing_of j' (joined cuts)).count (joined cuts) in
      sym (append_assoc (data_in q) (part_told (taken_of j cut) cut) (collected_from j' cuts))
      ∙ ap (λ (l : List ℕ). l ++ collected_from j' cuts) (sym (data_next r q j t cut))
      ∙ told_all cuts (from_mark (q ++ u)) j' (tracks_taken r q j t cut)
      ∙ ap data_in (mark_twice (q ++ u) v ∙ ap from_mark (append_assoc q u v ∙ ap (λ (l : List ℕ). q ++ l) (sym (taken_cut j cut (joined cuts)))))

  -- of a judge that was just begun
  collected_is : (cuts : List (List ℕ))
      → collected_from (fresh_judge r) cuts ≡ data_in (from_mark (take (hearing_of (fresh_judge r) (joined cuts)).count (joined cuts)))
  collected_is cuts =
      ap (λ (l : List ℕ). l ++ collected_from (fresh_judge r) cuts) (sym (take-nil {A = ℕ} (length_bytes [] - 1)))
      ∙ told_all cuts [] (fresh_judge r) (tracks_none r)

  -- while nothing is decided, that is the data so far
  pub collected_so_far : (cuts : List (List ℕ)) → judgement_of r (joined cuts) ≡ Unanswered
      → collected_from (fresh_judge r) cuts ≡ data_in (from_mark (joined cuts))
  collected_so_far cuts e =
      let n : ℕ = (hearing_of (fresh_judge r) (joined cuts)).count in
      let h : length (joined cuts) ≤ n = omega (arith, taken_all (fresh_judge r) (joined cuts) (judge_says r (joined cuts) ∙ e)) in
      collected_is cuts ∙ ap (λ (l : List ℕ). data_in (from_mark l)) (take_all n (joined cuts) h)

  -- a judge that passed a reply took the whole packet, and no more
  passed_whole : (q : List ℕ) (j : Judge) → Tracks r q j → j.judgement ≡ Passed → Whole DataPacket q
  unfolding judged_at
  passed_whole q j t e = ⊎_elim none some (part_or_decides q t.start)
    where
      none : progress_of DataPacket q ≡ Partial → Whole DataPacket q
      none p =
          let u : j.judgement ≡ Unanswered = t.says ∙ ap (judged_at r q) p in
          impossible (cc)

      fits : (f : Bool) → cond f (packet_judged r (first_packet q)) WrongReply ≡ Passed → f ≡ true
      fits true x = refl
      fits false x = impossible (cc)

      some : Decides q → Whole DataPacket q
      some d =
          let p = fits (permitted DataPacket (length_of q)) (sym (judged_front r q d) ∙ sym t.says ∙ e) in
          record { start = d.start; permits = p; count = omega (arith, d.full p, t.most, length_bytes_lem q d.long) }

  -- the data of a whole packet
  whole_data : (q : List ℕ) → Whole DataPacket q → data_in q ≡ info_of q
  whole_data q w =
      let k : length_bytes q - 1 ≡ length q - 6 = omega (arith, w.count, length_bytes_lem q (omega (arith, w.count))) in
      rw k refl

  module _ (bytes : List ℕ) (passed : judgement_of r bytes ≡ Passed) where
    abbrev last_judge : Judge
    last_judge = (hearing_of (fresh_judge r) bytes).judge

    -- the bytes from 81h on that were taken
    abbrev came : List ℕ
    came = from_mark (take (hearing_of (fresh_judge r) bytes).count bytes)

    -- which are the first packet, and whole
    came_tracked : Tracks r came last_judge
    came_tracked = tracks_taken r [] (fresh_judge r) (tracks_none r) bytes

    came_whole : Whole DataPacket came
    came_whole = passed_whole came last_judge came_tracked (judge_says r bytes ∙ passed)

    came_behind : from_mark bytes ≡ came ++ drop (hearing_of (fresh_judge r) bytes).count bytes
    came_behind =
        let n : ℕ = (hearing_of (fresh_judge r) bytes).count in
        ap from_mark (sym (take-append-drop n bytes)) ∙ mark_append (take n bytes) (drop n bytes) (omega (arith, came_whole.count))

    came_first : FirstPacket bytes came
    came_first = first_from bytes came (drop (hearing_of (fresh_judge r) bytes).count bytes) came_behind

    came_data : data_in came ≡ info_of (first_packet (from_mark bytes))
    came_data = whole_data came came_whole ∙ ap info_of (sym (first_packet_lem bytes came came_first came_whole))

    -- data that was passed is as long as it is due
    pub passed_data_length : (n : ℕ) → due_for r ≡ Data n → length (info_of (first_packet (from_mark bytes))) ≡ n
    passed_data_length n e =
        let w = came_whole in
        let c : progress_of DataPacket came ≡ Complete = complete DataPacket came w in
        let g = passed_contents r bytes came came_first c passed in
        let b : length g.behind ≡ n = subst (λ (due : Due). Granting due g.behind) e g.due in
        let l : length_of came ≡ n + 1 = omega (arith, contents_whole DataPacket came c, ap length g.is) in
        rw (first_packet_lem bytes came came_first w) (info_whole came (complete_least DataPacket came c) ∙ omega (arith, w.count))

    -- and where that is at most seventeen bytes, the judge keeps it
    pub passed_data_kept : (n : ℕ) → due_for r ≡ Data n → n ≤ 17 → take n last_judge.reply.first ≡ info_of (first_packet (from_mark bytes))
    passed_data_kept n e h =
        let k = came_tracked.keeps in
        let f : List ℕ = last_judge.reply.first in
        let l : length (take n f) ≡ n = length-take-le n f (omega (arith, k.room)) in
        let m : length (take n f) ≡ length (data_in came) = l ∙ sym (ap length came_data ∙ passed_data_length n e) in
        ext_get_or 0 (take n f) (data_in came) m (λ i x. get_or-take n f i 0 (omega arith) ∙ k.first i (omega arith)) ∙ came_data

  -- the parts that are told, joined, are the data of the reply that is passed
  pub collected : (cuts : List (List ℕ)) → judgement_of r (joined cuts) ≡ Passed
      → collected_from (fresh_judge r) cuts ≡ info_of (first_packet (from_mark (joined cuts)))
  collected cuts e = collected_is cuts ∙ came_data (joined cuts) e

-- what stands behind RES in a packet with contents
info_frame : (x : ℕ) (behind : List ℕ) → info_of (frame DataPacket (x ∷ behind)) ≡ behind
unfolding frame bytes_of
info_frame x behind =
    let n : length behind ≡ length (frame DataPacket (x ∷ behind)) - 6 = omega (arith, frame_length DataPacket (x ∷ behind)) in
    take_at behind (lack (counted (x ∷ behind)) ∷ 0x03 ∷ []) (length (frame DataPacket (x ∷ behind)) - 6) n

-- from packet to caller: where a reply that grants comes first, the judge passes it, and the parts that it told are what stands behind RES
pub told_exactly : (r : Request) (cuts : List (List ℕ)) (behind : List ℕ) → FirstPacket (joined cuts) (frame DataPacket (number_for r ∷ behind))
    → Granting (due_for r) behind → ((judge_after (fresh_judge r) cuts).judgement ≡ Passed) × (collected_from (fresh_judge r) cuts ≡ behind)
told_exactly r cuts behind f g =
    let grant : GrantIn r (number_for r ∷ behind) = record { behind = behind; is = refl; due = g } in
    let e : judgement_of r (joined cuts) ≡ Passed =
    grant_passes r (joined cuts) (record { contents = number_for r ∷ behind; first = f; grant = grant }) in
    let c = frame_complete DataPacket (number_for r ∷ behind) (grant_permitted r (number_for r ∷ behind) grant) in
    let p = first_packet_lem (joined cuts) (frame DataPacket (number_for r ∷ behind)) f (whole DataPacket (frame DataPacket (number_for r ∷ behind)) c) in
    (cuts_say r cuts ∙ e, collected r cuts e ∙ ap info_of p ∙ info_frame (number_for r) behind)
