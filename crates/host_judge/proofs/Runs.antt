-- Bytes heard one after the other, and those before ETX at once. Assumes nothing.
use Rattle.std.proofs.Common.{◌≡◌, ℕ, zero, suc, ◌+◌, ◌-◌, ◌%◌, ◌<◌, ◌≤◌, min, Bool, true, false, cond, ltb, leb, List, [], ◌∷◌, ◌++◌, length, get_or, take, drop, set, sym, refl, ap, ◌∙◌, inr, add-zero, arith, length-drop, take-append-drop, drop_of_length-le, length-take, length-take-le, take_all, drop-cons, drop-drop, ltb-false, ltb-true, le-leb, leb-false, leb-true}
use native.Mathlib.Nat.{mod-add-mod}
use lib.Seq.{sets, sets-eq}
use Rattle.numbers.proofs.Copied.{part_count, pasted}
use Rattle.packet.specs.Packet.{sum_of}
use Rattle.host_judge.specs.declared.Judge.{Judge}
use Rattle.host_judge.specs.declared.Reply.{Reply}
use Rattle.host_judge.specs.Reply.{is_unanswered}
use Rattle.host_judge.specs.Judge.{Heard, length_in, data_end, is_kept, grown, heard_byte, hearing_of}
use Rattle.host_judge.specs.Runs.{kept_of, run_added, HeardBytes}
use Rattle.host_judge.proofs.OneByte.{unlike_below, heard_between}

-- what was heard, with so many bytes taken before
abbrev pub taken_before : ℕ → Heard → Heard
taken_before n h = record { judge = h.judge; count = n + h.count }

-- a verdict is final
pub decided_heard : (j : Judge) (bs : List ℕ) → is_unanswered j.judgement ≡ false → hearing_of j bs ≡ record { judge = j; count = 0 }
unfolding hearing_of
decided_heard j [] e = refl
decided_heard j (b ∷ bs) e = simp e

-- without a verdict a byte is taken
pub byte_heard : (j : Judge) (b : ℕ) (bs : List ℕ) → is_unanswered j.judgement ≡ true
    → hearing_of j (b ∷ bs)
    ≡ record { judge = (hearing_of (heard_byte j b) bs).judge; count = (hearing_of (heard_byte j b) bs).count + 1 }
unfolding hearing_of
byte_heard j b bs e = simp e

-- the same judge and the same count
pub same_heard : (j j' : Judge) (n n' : ℕ) → j ≡ j' → n ≡ n' → ◌≡◌ {A = Heard} (record { judge = j; count = n }) (record { judge = j'; count = n' })
same_heard j j' n n' e f = rw (e, f) refl

-- a byte in front of bytes that are all taken
append_byte : (j : Judge) (b : ℕ) (xs ys : List ℕ) → is_unanswered j.judgement ≡ true
    → hearing_of (heard_byte j b) (xs ++ ys) ≡ taken_before (length xs) (hearing_of (hearing_of (heard_byte j b) xs).judge ys)
    → hearing_of j (b ∷ xs ++ ys) ≡ taken_before (length (b ∷ xs)) (hearing_of (hearing_of j (b ∷ xs)).judge ys)
append_byte j b xs ys t ih =
    byte_heard j b (xs ++ ys) t
    ∙ same_heard _ _ _ _
    (ap (λ (h : Heard). h.judge) ih ∙ ap (λ (h : Heard). (hearing_of h.judge ys).judge) (sym (byte_heard j b xs t)))
    (omega (
      arith,
      ap (λ (h : Heard). h.count) ih,
      ap (λ (h : Heard). (hearing_of h.judge ys).count) (byte_heard j b xs t),
    ))

-- bytes behind some that are all taken are heard by the judge behind those
pub heard_append : (j : Judge) (xs ys : List ℕ) → (hearing_of j xs).count ≡ length xs
    → hearing_of j (xs ++ ys) ≡ taken_before (length xs) (hearing_of (hearing_of j xs).judge ys)
unfolding hearing_of
heard_append j [] ys e = same_heard _ _ _ _ refl (omega arith)
heard_append j (b ∷ xs) ys e = by (is_unanswered j.judgement) refl (heard_append (heard_byte j b) xs ys)
  where
    by : (t : Bool) → is_unanswered j.judgement ≡ t
        → ((hearing_of (heard_byte j b) xs).count ≡ length xs
        → hearing_of (heard_byte j b) (xs ++ ys) ≡ taken_before (length xs) (hearing_of (hearing_of (heard_byte j b) xs).judge ys))
        → hearing_of j (b ∷ xs ++ ys) ≡ taken_before (length (b ∷ xs)) (hearing_of (hearing_of j (b ∷ xs)).judge ys)
    by true t ih = append_byte j b xs ys t (ih (omega (arith, e, ap (λ (h : Heard). h.count) (byte_heard j b xs t))))
    by false t ih = absurd (omega (arith, e, ap (λ (h : Heard). h.count) (decided_heard j (b ∷ xs) t)))

-- the judge with this reply
abbrev pub with_reply : Judge → Reply → Judge
with_reply j y = record { request = j.request; judgement = j.judgement; reply = y }

-- bytes kept from a place on: the first, and then those behind it
kept_more : (f : List ℕ) (i d d' b : ℕ) (bs : List ℕ) → d ≡ suc d'
    → sets (sets f i (take d (b ∷ []))) (suc i) (take d' bs) ≡ sets f i (take d (b ∷ bs))
kept_more f i d zero b bs e = rw e refl
kept_more f i d (suc d') b bs e = rw e refl

-- the first alone
kept_first : (f : List ℕ) (i d d' b : ℕ) → d ≡ suc d' → set f i b ≡ sets f i (take d (b ∷ []))
kept_first f i d zero b e = rw e refl
kept_first f i d (suc d') b e = rw e refl

-- as many as there are
take_least : (n d : ℕ) (l : List ℕ) → n ≡ min (length l) d → take n l ≡ take d l
take_least n d l e = by (leb d (length l)) refl
  where
    by : (t : Bool) → leb d (length l) ≡ t → take n l ≡ take d l
    by true f = let k : n ≡ d = omega (arith, leb-true d (length l) f) in rw k refl
    by false f =
        let h : length l < d = leb-false d (length l) f in
        take_all n l (omega arith) ∙ sym (take_all d l (omega arith))

-- what is kept has room among the seventeen
pub kept_room : (count end d n many : ℕ) → 4 ≤ count → count < end → end ≡ min d 21 → n ≡ min many (end - count) → count - 4 + n ≤ 17
kept_room count end d n many h l e f =
    let a : end ≤ 21 = omega arith in
    let b : n ≤ end - count = omega arith in
    omega (arith, a, b)

-- the part that they are copied over is as long
pub copy_room : (f more : List ℕ) (from n : ℕ) → from + n ≤ length f → length (take n more) ≤ length (take (from + n - from) (drop from f))
copy_room f more from n h = rw (part_count from (from + n) f h, length-take) (omega arith)

-- bytes copied to their place are kept there
pub kept_copy : (f more new : List ℕ) (from n d : ℕ) → from + n ≤ length f → n ≡ min (length more) d
    → new ≡ take n more ++ drop (length (take n more)) (take (from + n - from) (drop from f))
    → take from f ++ (new ++ drop (from + n - from) (drop from f)) ≡ sets f from (take d more)
kept_copy f more new from n d h e c =
    let l : length (take n more) ≡ n = length-take-le n more (omega arith) in
    let w : from + length (take n more) ≤ length f = rw l h in
    pasted from (from + n) f h (omega arith) (take n more) new (part_count from (from + n) f h ∙ omega arith) c
    ∙ sym (sets-eq (take n more) f from w ∙ rw l refl)
    ∙ ap (sets f from) (take_least n d more e)

-- one byte is kept as growing keeps it
kept_one : (y : Reply) (b : ℕ) → 4 ≤ y.count → cond (is_kept y) (set y.first (y.count - 4) b) y.first ≡ kept_of y (b ∷ [])
kept_one y b h = by (ltb y.count (min (data_end y) 21)) refl
  where
    by : (t : Bool) → ltb y.count (min (data_end y) 21) ≡ t → cond (is_kept y) (set y.first (y.count - 4) b) y.first ≡ kept_of y (b ∷ [])
    by true e =
        let l : y.count < min (data_end y) 21 = ltb-true y.count (min (data_end y) 21) e in
        let d : min (data_end y) 21 - y.count ≡ suc (min (data_end y) 21 - (y.count + 1)) = omega (arith, l) in
        rw (le-leb 4 y.count h, e) (kept_first y.first (y.count - 4) _ _ b d)
    by false e =
        let d : min (data_end y) 21 - y.count ≡ 0 = omega (arith, ltb-false y.count (min (data_end y) 21) e) in
        rw (le-leb 4 y.count h, e, d) refl

-- a byte behind RES and before ETX
counted_byte : (j : Judge) (b : ℕ) → 4 ≤ j.reply.count → j.reply.count < length_in j.reply + 4
    → heard_byte j b ≡ with_reply j (run_added j.reply (b ∷ []))
unfolding grown sum_of
counted_byte j b l h =
    let n : ℕ = j.reply.count in
    heard_between j b (λ q. omega arith) (inr h)
    ∙ simp (
      unlike_below n 1 (omega arith),
      unlike_below n 2 (omega arith),
      unlike_below n 3 (omega arith),
      unlike_below (n + 1) 3 (omega arith),
      kept_one j.reply b l,
      add-zero,
    )

-- one byte, and then a run
byte_and_run : (y : Reply) (b : ℕ) (bs : List ℕ) → 4 ≤ y.count → run_added (run_added y (b ∷ [])) bs ≡ run_added y (b ∷ bs)
unfolding sum_of
byte_and_run y b bs h = rw (n, s, by (ltb y.count (min (data_end y) 21)) refl) refl
  where
    n : y.count + 1 + length bs ≡ y.count + suc (length bs)
    n = omega arith

    s : ((y.sum + (b + 0)) % 256 + sum_of bs) % 256 ≡ (y.sum + (b + sum_of bs)) % 256
    s = mod-add-mod (y.sum + (b + 0)) 256 (sum_of bs) ∙ ap (λ (k : ℕ). k % 256) (omega arith)

    i : y.count + 1 - 4 ≡ suc (y.count - 4)
    i = omega arith

    by : (t : Bool) → ltb y.count (min (data_end y) 21) ≡ t → kept_of (run_added y (b ∷ [])) bs ≡ kept_of y (b ∷ bs)
    by true e = rw i (kept_more y.first (y.count - 4) (min (data_end y) 21 - y.count) (min (data_end y) 21 - (y.count + 1)) b bs
        (omega (arith, ltb-true y.count (min (data_end y) 21) e)))
    by false e =
        let d : min (data_end y) 21 - y.count ≡ 0 = omega (arith, ltb-false y.count (min (data_end y) 21) e) in
        let d' : min (data_end y) 21 - (y.count + 1) ≡ 0 = omega (arith, ltb-false y.count (min (data_end y) 21) e) in
        rw (d, d') refl

-- a run taken at once makes what its bytes make one after the other
pub run_heard : (j : Judge) (bs : List ℕ) → is_unanswered j.judgement ≡ true → 0 < length bs → 4 ≤ j.reply.count
    → j.reply.count + length bs ≤ length_in j.reply + 4
    → hearing_of j bs ≡ record { judge = with_reply j (run_added j.reply bs); count = length bs }
unfolding hearing_of
run_heard j [] u s l h = absurd (omega arith)
run_heard j (b ∷ []) u s l h = byte_heard j b [] u ∙ same_heard _ _ _ _ (counted_byte j b l (omega arith)) refl
run_heard j (b ∷ b' ∷ bs) u s l h =
    let y : Reply = run_added j.reply (b ∷ []) in
    let k : hearing_of (heard_byte j b) (b' ∷ bs) ≡ record { judge = with_reply j (run_added y (b' ∷ bs)); count = length (b' ∷ bs) } =
    ap (λ (x : Judge). hearing_of x (b' ∷ bs)) (counted_byte j b l (omega arith))
    ∙ run_heard (with_reply j y) (b' ∷ bs) u (omega arith) (omega arith) (omega arith) in
    byte_heard j b (b' ∷ bs) u
    ∙ same_heard _ _ _ _ (ap (λ (x : Heard). x.judge) k ∙ ap (with_reply j) (byte_and_run j.reply b (b' ∷ bs) l))
    (omega (arith, ap (λ (x : Heard). x.count) k))

-- a judge behind some bytes: hearing the rest from it is hearing all
pub record HeardSo (j₀ : Judge) (bytes : List ℕ) (j : Judge) (taken : ℕ) : Type 0 where
  pub within : taken ≤ length bytes
  pub rest : hearing_of j₀ bytes ≡ taken_before taken (hearing_of j (drop taken bytes))

-- the judge before all bytes
pub none_heard : (j : Judge) (bytes : List ℕ) → HeardSo j bytes j 0
none_heard j bytes = record { within = omega arith; rest = same_heard _ _ _ _ refl (omega arith) }

-- some more bytes that are all taken
pub more_heard : (j₀ j j' : Judge) (bytes : List ℕ) (taken n : ℕ) → HeardSo j₀ bytes j taken → taken + n ≤ length bytes
    → hearing_of j (take n (drop taken bytes)) ≡ record { judge = j'; count = n }
    → HeardSo j₀ bytes j' (taken + n)
more_heard j₀ j j' bytes taken n so h e =
    let d : List ℕ = drop taken bytes in
    let l : length (take n d) ≡ n = length-take-le n d (rw length-drop (omega arith)) in
    let a : hearing_of j d ≡ taken_before n (hearing_of j' (drop n d)) =
    ap (hearing_of j) (sym (take-append-drop n d))
    ∙ heard_append j (take n d) (drop n d) (ap (λ (x : Heard). x.count) e ∙ sym l)
    ∙ rw (e, l) refl in
    record {
      within = h;
      rest =
          so.rest
          ∙ ap (taken_before taken) a
          ∙ rw (drop-drop n taken bytes) (same_heard _ _ _ _ refl (omega arith));
    }

-- one more byte
pub one_heard : (j₀ j : Judge) (bytes : List ℕ) (taken : ℕ) → HeardSo j₀ bytes j taken → taken < length bytes
    → is_unanswered j.judgement ≡ true → HeardSo j₀ bytes (heard_byte j (get_or bytes taken 0)) (taken + 1)
unfolding hearing_of
one_heard j₀ j bytes taken so h u =
    let e : take 1 (drop taken bytes) ≡ get_or bytes taken 0 ∷ [] = rw (drop-cons bytes taken 0 h) refl in
    more_heard j₀ j (heard_byte j (get_or bytes taken 0)) bytes taken 1 so (omega arith)
    (ap (hearing_of j) e ∙ byte_heard j (get_or bytes taken 0) [] u)

-- where the rest is not taken, all is heard
module _ (j₀ j : Judge) (bytes : List ℕ) (taken : ℕ) (so : HeardSo j₀ bytes j taken) where
  rest_left : hearing_of j (drop taken bytes) ≡ record { judge = j; count = 0 } → HeardBytes j₀ bytes (record { judge = j; count = taken })
  rest_left e =
      let w : hearing_of j₀ bytes ≡ record { judge = j; count = taken + 0 } = so.rest ∙ ap (taken_before taken) e in
      record { judge = sym (ap (λ (x : Heard). x.judge) w); count = omega (arith, ap (λ (x : Heard). x.count) w) }

  -- at the end
  pub heard_to_end : length bytes ≤ taken → HeardBytes j₀ bytes (record { judge = j; count = taken })
  unfolding hearing_of
  heard_to_end h = rest_left (rw (drop_of_length-le bytes h) refl)

  -- at a verdict
  pub heard_to_verdict : is_unanswered j.judgement ≡ false → HeardBytes j₀ bytes (record { judge = j; count = taken })
  heard_to_verdict u = rest_left (decided_heard j (drop taken bytes) u)
