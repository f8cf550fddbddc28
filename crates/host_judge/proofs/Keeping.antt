-- What a reply's record keeps of the bytes from 81h on: their count, the length, RES, and the first seventeen of the data. Assumes nothing.
use Rattle.std.proofs.Common.{◌≡◌, ℕ, zero, suc, ◌+◌, ◌-◌, ◌<◌, ◌≤◌, min, Bool, true, false, cond, eqb, ltb, leb, List, [], ◌∷◌, ◌++◌, length, get_or, take, drop, set, sym, refl, ap, ◌∙◌, arith, length-append, length-drop, length-set, length-take, get_or-drop, get_or-set_other, get_or-take, get_or-set_same, ltb-false, ltb-true, lt-ltb, eq-eqb, ne_eqb, eqb-true, le-leb, leb-true}
use lib.ListN.{get_or-replicate, get_or-append, get_or-eq_default}
use lib.Seq.{take-append-le, drop-append-le, take-nil}
use lib.Dec.{eqb-zero-suc, eqb-suc-zero, eqb-suc-suc}
use borrow.Author.Tests.{eqb-false}
use Rattle.numbers.specs.Bytes.{number}
use Rattle.packet.specs.Packet.{length_of}
use Rattle.packet.proofs.Laws.{both}
use Rattle.host_judge.specs.declared.Reply.{Reply}
use Rattle.host_judge.specs.Judge.{no_reply, length_in, data_end, with_count, is_kept, grown}

-- what the second and the third byte say, with 0 for one that has not come
abbrev pub length_bytes : List ℕ → ℕ
length_bytes q = number (get_or q 1 0 ∷ get_or q 2 0 ∷ [])

-- the data that came: what stands behind RES, as far as the length goes
abbrev pub data_in : List ℕ → List ℕ
data_in q = take (length_bytes q - 1) (drop 4 q)

-- a record of such bytes
pub record Keeps (q : List ℕ) (y : Reply) : Type 0 where
  pub count : y.count ≡ length q
  pub high : y.high ≡ get_or q 1 0
  pub low : y.low ≡ get_or q 2 0
  pub res : y.res ≡ get_or q 3 0
  pub first : (i : ℕ) → i < 17 → get_or y.first i 0 ≡ get_or (data_in q) i 0
  pub room : length y.first ≡ 17

-- where both bytes came, that is the length
pub length_bytes_lem : (q : List ℕ) → 3 ≤ length q → length_of q ≡ length_bytes q
unfolding length_of
length_bytes_lem [] h = absurd (omega arith)
length_bytes_lem (a ∷ []) h = absurd (omega arith)
length_bytes_lem (a ∷ x ∷ []) h = absurd (omega arith)
length_bytes_lem (a ∷ x ∷ y ∷ q) h = refl

-- more bytes do not change it
pub length_stays : (q more : List ℕ) → 3 ≤ length q → length_bytes (q ++ more) ≡ length_bytes q
length_stays q more h = rw (get_or-append q more 0 1 (omega arith), get_or-append q more 0 2 (omega arith)) refl

-- an entry when one byte more came
next_at : (q : List ℕ) (b i : ℕ) → cond (eqb (length q) i) b (get_or q i 0) ≡ get_or (q ++ b ∷ []) i 0
next_at [] b zero = refl
next_at [] b (suc i) = rw (eqb-zero-suc i) refl
next_at (x ∷ q) b zero = rw (eqb-suc-zero (length q)) refl
next_at (x ∷ q) b (suc i) = rw (eqb-suc-suc (length q) i) (next_at q b i)

-- an entry of a list's first k
front_at : (k : ℕ) (l : List ℕ) (i : ℕ) → get_or (take k l) i 0 ≡ cond (ltb i k) (get_or l i 0) 0
front_at k l i = by (ltb i k) refl
  where
    by : (t : Bool) → ltb i k ≡ t → get_or (take k l) i 0 ≡ cond t (get_or l i 0) 0
    by true e = get_or-take k l i 0 (ltb-true i k e)
    by false e = get_or-eq_default (take k l) 0 (omega (arith, length-take k l, ltb-false i k e))

-- an entry of the data
data_at : (q : List ℕ) (i : ℕ) → get_or (data_in q) i 0 ≡ cond (ltb i (length_bytes q - 1)) (get_or q (4 + i) 0) 0
data_at q i = front_at (length_bytes q - 1) (drop 4 q) i ∙ ap (λ (x : ℕ). cond (ltb i (length_bytes q - 1)) x 0) (get_or-drop 4 q i 0)

-- one that came
pub data_there : (q : List ℕ) (i : ℕ) → i < length_bytes q - 1 → get_or (data_in q) i 0 ≡ get_or q (4 + i) 0
data_there q i h = data_at q i ∙ rw (lt-ltb i (length_bytes q - 1) h) refl

-- a byte behind the data does not add to it
pub data_stays : (q more : List ℕ) → 4 + (length_bytes q - 1) ≤ length q → data_in (q ++ more) ≡ data_in q
data_stays q more h =
    let l : length_bytes q - 1 ≤ length (drop 4 q) = rw length-drop (omega arith) in
    rw (length_stays q more (omega arith), drop-append-le 4 q more (omega arith)) (take-append-le (length_bytes q - 1) (drop 4 q) more l)

-- before any byte
pub keeps_none : Keeps [] no_reply
keeps_none =
    record {
      count = refl;
      high = refl;
      low = refl;
      res = refl;
      first = λ i h. get_or-replicate 17 i 0 0 h ∙ sym (ap (λ (l : List ℕ). get_or l i 0) (take-nil (length_bytes [] - 1)));
      room = refl;
    }

-- 81h
pub keeps_mark : (b : ℕ) (y : Reply) → Keeps [] y → Keeps (b ∷ []) (with_count 1 y)
keeps_mark b y k = record { count = refl; high = k.high; low = k.low; res = k.res; first = k.first; room = k.room }

-- whatever the test says
either_zero : (t : Bool) → ◌≡◌ {A = ℕ} (cond t 0 0) 0
either_zero true = refl
either_zero false = refl

module _ (q : List ℕ) (y : Reply) (k : Keeps q y) where
  -- what its length bytes say
  pub length_told : length_in y ≡ length_bytes q
  length_told = rw (k.high, k.low) refl

  -- a byte that is one of the first seventeen of the data, and one that is not
  kept_place : is_kept y ≡ true → (4 ≤ length q) × (length q < 4 + (length_bytes q - 1))
  kept_place e =
      let t = both (leb 4 y.count) (ltb y.count (min (data_end y) 21)) e in
      (omega (arith, k.count, leb-true 4 y.count t.0), omega (arith, k.count, length_told, ltb-true y.count (min (data_end y) 21) t.1))

  kept_not : is_kept y ≡ false → 4 ≤ length q → length q < 21 → 4 + (length_bytes q - 1) ≤ length q
  kept_not e h s =
      let c : 4 ≤ y.count = omega (arith, k.count) in
      omega (arith, k.count, length_told, ltb-false y.count (min (data_end y) 21) (rw (le-leb 4 y.count c) at e))

  module _ (b : ℕ) where
    -- an entry of the data that the byte is not
    other_first : (i : ℕ) → i < 17 → (length q ≡ 4 + i → ⊥) → get_or y.first i 0 ≡ get_or (data_in (q ++ b ∷ [])) i 0
    other_first i h n = k.first i h ∙ data_at q i ∙ by (ltb (length q) 3) refl ∙ sym (data_at (q ++ b ∷ []) i)
      where
        same : get_or (q ++ b ∷ []) (4 + i) 0 ≡ get_or q (4 + i) 0
        same = sym (next_at q b (4 + i)) ∙ rw (ne_eqb (length q) (4 + i) n) refl

        by : (t : Bool) → ltb (length q) 3 ≡ t
            → cond (ltb i (length_bytes q - 1)) (get_or q (4 + i) 0) 0 ≡ cond (ltb i (length_bytes (q ++ b ∷ []) - 1)) (get_or (q ++ b ∷ []) (4 + i) 0) 0
        by true e =
            let l : length q ≤ 4 + i = omega (arith, ltb-true (length q) 3 e) in
            let z : get_or q (4 + i) 0 ≡ 0 = get_or-eq_default q 0 l in
            rw (same, z) (either_zero (ltb i (length_bytes q - 1)) ∙ sym (either_zero (ltb i (length_bytes (q ++ b ∷ []) - 1))))
        by false e = rw (length_stays q (b ∷ []) (ltb-false (length q) 3 e), same) refl

    -- the entry that it is, inside the data, and behind its end
    own_first : (i : ℕ) → length q ≡ 4 + i → i < length_bytes q - 1 → b ≡ get_or (data_in (q ++ b ∷ [])) i 0
    own_first i e h =
        let l : length_bytes (q ++ b ∷ []) ≡ length_bytes q = length_stays q (b ∷ []) (omega arith) in
        let x : get_or (q ++ b ∷ []) (4 + i) 0 ≡ b = sym (next_at q b (4 + i)) ∙ rw (eq-eqb (length q) (4 + i) e) refl in
        sym (data_at (q ++ b ∷ []) i ∙ rw (l, lt-ltb i (length_bytes q - 1) h) x)

    past_first : (i : ℕ) → i < 17 → length q ≡ 4 + i → length_bytes q - 1 ≤ i → get_or y.first i 0 ≡ get_or (data_in (q ++ b ∷ [])) i 0
    past_first i s e h = k.first i s ∙ sym (ap (λ (l : List ℕ). get_or l i 0) (data_stays q (b ∷ []) (omega arith)))

    -- any entry
    grown_first : (i : ℕ) → i < 17 → (kept : Bool) → is_kept y ≡ kept → (own : Bool) → eqb (length q) (4 + i) ≡ own
        → get_or (cond kept (set y.first (y.count - 4) b) y.first) i 0 ≡ get_or (data_in (q ++ b ∷ [])) i 0
    grown_first i h false e false o = other_first i h (eqb-false (length q) (4 + i) o)
    grown_first i h false e true o =
        let x : length q ≡ 4 + i = eqb-true (length q) (4 + i) o in
        past_first i h x (omega (arith, kept_not e (omega arith) (omega arith)))
    grown_first i h true e false o =
        let x : length q ≡ 4 + i → ⊥ = eqb-false (length q) (4 + i) o in
        let m : i ≡ y.count - 4 → ⊥ = λ z. x (omega (arith, k.count, (kept_place e).0)) in
        get_or-set_other y.first (y.count - 4) i b 0 m ∙ other_first i h x
    grown_first i h true e true o =
        let x : length q ≡ 4 + i = eqb-true (length q) (4 + i) o in
        let m : y.count - 4 ≡ i = omega (arith, k.count) in
        let l : i < length y.first = omega (arith, k.room) in
        rw m (get_or-set_same y.first i b 0 l ∙ own_first i x (omega (arith, (kept_place e).1)))

    -- a byte that SUM counts
    pub keeps_more : Keeps (q ++ b ∷ []) (grown y b)
    unfolding grown
    keeps_more =
        record {
          count = omega (arith, k.count, length-append q (b ∷ []));
          high = rw (k.count, k.high) (next_at q b 1);
          low = rw (k.count, k.low) (next_at q b 2);
          res = rw (k.count, k.res) (next_at q b 3);
          first = λ i h. grown_first i h (is_kept y) refl (eqb (length q) (4 + i)) refl;
          room = by (is_kept y);
        }
      where
        by : (kept : Bool) → length (cond kept (set y.first (y.count - 4) b) y.first) ≡ 17
        by true = length-set y.first (y.count - 4) b ∙ k.room
        by false = k.room

    -- ETX
    pub keeps_last : length q ≡ length_bytes q + 4 → Keeps (q ++ b ∷ []) (with_count (length_in y + 5) y)
    keeps_last e =
        let n = length-append q (b ∷ []) in
        let d : data_in (q ++ b ∷ []) ≡ data_in q = data_stays q (b ∷ []) (omega arith) in
        record {
          count = omega (arith, length_told);
          high = k.high ∙ sym (get_or-append q (b ∷ []) 0 1 (omega arith));
          low = k.low ∙ sym (get_or-append q (b ∷ []) 0 2 (omega arith));
          res = k.res ∙ sym (get_or-append q (b ∷ []) 0 3 (omega arith));
          first = λ i h. k.first i h ∙ sym (ap (λ (l : List ℕ). get_or l i 0) d);
          room = k.room;
        }
