-- The test whether all bytes are blank, and the search behind a front that is. Assumes nothing.
use Rattle.std.proofs.Common.{Bool, true, false, cond, ◌&&◌, List, [], ◌∷◌, ◌++◌, ◌≡◌, refl, ap, ◌∙◌, ℕ, zero, suc, ◌+◌, ◌-◌, ◌/◌, ◌≤◌, ◌<◌, ◌*◌, max, arith, sym, length-drop, length-append, length, length-take, take_all, take, drop, drop_of_length-le, drop-cons, drop-drop, get_or, get_or-take, get_or-drop, eqb, ne_eqb, fold, subst, add-one, add-mul, one-mul, div-mul-le_self}
use Rattle.std.specs.Prelude.{Option, Some, None}
use Rattle.std.proofs.Math.Seq.{take-add, take-append_seam, drop-append_seam}
use native.Mathlib.Nat.{div-eq_of_lt-le, le-mul_of_pos_right, lt-div-mul-add}
use Rattle.flash_blank.specs.Blank.{searched_from, searched, all_blank}

-- one byte after the other
each_blank : (b : ℕ) (t more : Bool) → (t && more) ≡ cond t more false
each_blank b true more = refl
each_blank b false more = refl

pub blank_fold : (blank : Bool) (l : List ℕ) → fold (λ t b. t && eqb b 0xFF) blank l ≡ (blank && all_blank l)
unfolding all_blank
blank_fold true [] = refl
blank_fold false [] = refl
blank_fold true (b ∷ bs) = blank_fold (eqb b 0xFF) bs ∙ each_blank b (eqb b 0xFF) (all_blank bs)
blank_fold false (b ∷ bs) = blank_fold false bs

-- the search over a piece of n bytes, of which all are FFh: it goes on behind it
passed_by : (unit i b : ℕ) (piece bs : List ℕ) (found : Option ℕ) (t : Bool) → eqb b 0xFF ≡ t → (all_blank piece ≡ true → searched_from unit (i + 1) bs ≡ found)
    → all_blank (b ∷ piece) ≡ true → searched_from unit i (b ∷ bs) ≡ found
unfolding all_blank searched_from
passed_by unit i b piece bs found true e later h = rw e (later (rw e at h))
passed_by unit i b piece bs found false e later h = let f : false ≡ true = rw e at h in cc

pub piece_passed : (unit n i : ℕ) (l : List ℕ) → n ≤ length l → all_blank (take n l) ≡ true → searched_from unit i l ≡ searched_from unit (i + n) (drop n l)
piece_passed unit zero i l w h = ap (λ (k : ℕ). searched_from unit k l) (omega arith)
piece_passed unit (suc n) i [] w h = absurd (omega arith)
piece_passed unit (suc n) i (b ∷ bs) w h =
    let e : i + 1 + n ≡ i + suc n = omega arith in
    passed_by unit i b (take n bs) bs (searched_from unit (i + suc n) (drop n bs)) (eqb b 0xFF) refl
    (λ later. piece_passed unit n (i + 1) bs (omega arith) later ∙ ap (λ (k : ℕ). searched_from unit k (drop n bs)) e)
    h

-- two pieces, one behind the other
join_by : (b : ℕ) (xs ys : List ℕ) (t : Bool) → eqb b 0xFF ≡ t → (all_blank xs ≡ true → all_blank (xs ++ ys) ≡ true) → all_blank (b ∷ xs) ≡ true → all_blank (b ∷ xs ++ ys) ≡ true
unfolding all_blank
join_by b xs ys true e later h = rw e (later (rw e at h))
join_by b xs ys false e later h = let f : false ≡ true = rw e at h in cc

blank_join : (xs ys : List ℕ) → all_blank xs ≡ true → all_blank ys ≡ true → all_blank (xs ++ ys) ≡ true
blank_join [] ys h g = g
blank_join (b ∷ bs) ys h g = join_by b bs ys (eqb b 0xFF) refl (λ later. blank_join bs ys later g) h

-- the front that is all FFh
pub front_start : (l : List ℕ) → all_blank (take 0 l) ≡ true
unfolding all_blank
front_start l = refl

-- the bytes behind it
pub behind : (n : ℕ) (l : List ℕ) → take (length l - n) (drop n l) ≡ drop n l
behind n l = take_all (length l - n) (drop n l) (omega (arith, length-drop n l))

-- one piece of them is, too
pub record Passed (l rest : List ℕ) (at : ℕ) : Type 0 where
  pub whole : at + length rest ≡ length l
  pub blank : all_blank (take at l) ≡ true
  pub left : drop at l ≡ rest

pub passed_next : (l rest piece : List ℕ) (at : ℕ) → Passed l (piece ++ rest) at → all_blank piece ≡ true → Passed l rest (at + length piece)
passed_next l rest piece at p g =
    let n = length piece in
    let front : take n (drop at l) ≡ piece = rw p.left (take-append_seam piece rest) in
    let behind : drop n (drop at l) ≡ rest = rw p.left (drop-append_seam piece rest) in
    record {
      whole = omega (arith, length-append piece rest, p.whole);
      blank = rw take-add (blank_join (take at l) (take n (drop at l)) p.blank (rw front g));
      left = sym (drop-drop n at l) ∙ behind;
    }

-- the search comes to what it comes to from place i on
abbrev pub Left : ℕ → List ℕ → ℕ → Type 0
Left unit l i = searched unit l ≡ searched_from (max unit 1) i (drop i l)

module _ (unit i : ℕ) (l : List ℕ) where
  pub left_behind : i ≤ length l → all_blank (take i l) ≡ true → Left unit l i
  unfolding searched
  left_behind w h =
      let z : 0 + i ≡ i = omega arith in
      piece_passed (max unit 1) i 0 l w h ∙ ap (λ (k : ℕ). searched_from (max unit 1) k (drop i l)) z

  left_next : Left unit l i → i < length l → get_or l i 0 ≡ 0xFF → Left unit l (i + 1)
  unfolding searched_from
  left_next p h e =
      p ∙ rw (drop-cons l i 0 h, e) (ap (λ (k : ℕ). searched_from (max unit 1) (i + 1) (drop k l)) (sym (add-one i)))

  left_found : Left unit l i → i < length l → (get_or l i 0 ≡ 0xFF → ⊥) → searched unit l ≡ Some (i / max unit 1)
  unfolding searched_from
  left_found p h e = p ∙ rw (drop-cons l i 0 h, ne_eqb (get_or l i 0) 0xFF e) refl

  pub left_none : Left unit l i → length l ≤ i → searched unit l ≡ None
  unfolding searched_from
  left_none p h = p ∙ rw (drop_of_length-le l h) refl

-- a byte of the part that a unit's loop goes over: the i-th of up to n from place `from` on
module _ (unit from n i : ℕ) (l : List ℕ) (p : Left unit l (from + i)) (h : i < length (take n (drop from l))) where
  within : from + i < length l
  within = omega (arith, length-take n (drop from l), length-drop from l)

  same : get_or (take n (drop from l)) i 0 ≡ get_or l (from + i) 0
  same = get_or-take n (drop from l) i 0 (omega (arith, length-take n (drop from l))) ∙ get_or-drop from l i 0

  pub part_next : get_or (take n (drop from l)) i 0 ≡ 0xFF → Left unit l (from + (i + 1))
  part_next e =
      let s : from + i + 1 ≡ from + (i + 1) = omega arith in
      subst (Left unit l) s (left_next unit (from + i) l p within (sym same ∙ e))

  pub part_found : (number : ℕ) → (get_or (take n (drop from l)) i 0 ≡ 0xFF → ⊥) → number * max unit 1 ≤ from + i → from + i < (number + 1) * max unit 1
      → searched unit l ≡ Some number
  part_found number e lo hi =
      left_found unit (from + i) l p within (λ q. e (same ∙ q)) ∙ ap Some (div-eq_of_lt-le (max unit 1) lo hi)

-- the unit that a place belongs to
pub unit_of : (place step : ℕ) → 0 < step → (place / step * step ≤ place) × (place < (place / step + 1) * step)
unit_of place step p = (div-mul-le_self place step, rw (add-mul, one-mul) (lt-div-mul-add {a = place} p))

-- as many units as there are bytes hold all of them
pub units_hold : (number step n : ℕ) → 0 < step → n ≤ number → n ≤ number * step
units_hold number step n p h = omega (arith, le-mul_of_pos_right {m = step} number p)
