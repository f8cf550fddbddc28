-- What each answer about the bytes so far says of them, and which bytes have it. Assumes nothing.
use Rattle.std.proofs.Common.{◌≡◌, ℕ, ◌+◌, ◌<◌, ◌≤◌, Bool, true, false, cond, not, ◌||◌, eqb, ltb, List, [], ◌∷◌, ◌++◌, length, get_or, drop, sym, refl, ap, ◌∙◌, arith, length-append, length-drop, ltb-false, ltb-true, le-ltb, lt-ltb, eq-eqb, ne_eqb, eqb-true}
use lib.ListN.{get_or-append}
use lib.Seq.{take-append-le, drop-append-le}
use borrow.Author.Tests.{eqb-false}
use Rattle.packet.specs.declared.Kind.{Kind}
use Rattle.packet.specs.declared.Kind.TheVariants.{Command, Data}
use Rattle.packet.specs.declared.Progress.{Progress}
use Rattle.packet.specs.declared.Progress.TheVariants.{Astray, Partial, Unfit, Complete, Excess}
use Rattle.packet.specs.Packet.{start_of, longest_of, permitted, length_of, measured_of, progress_of, is_complete, ends_well, good}
use Rattle.packet.proofs.Laws.{impossible, both, permitted_most, longest_most}

-- the tests that lead to an answer, in their order
abbrev pub answer_of : (empty right short fits early exact : Bool) → Progress
answer_of empty right short fits early exact =
    cond empty Partial
    (cond (not right) Astray
    (cond short Partial
    (cond (not fits) Unfit
    (cond early Partial
    (cond exact Complete Excess)))))

complete_tests : (empty right short fits early exact : Bool) → answer_of empty right short fits early exact ≡ Complete
    → (right ≡ true) × (fits ≡ true) × (exact ≡ true)
complete_tests true right short fits early exact e = impossible (cc)
complete_tests false false short fits early exact e = impossible (cc)
complete_tests false true true fits early exact e = impossible (cc)
complete_tests false true false false early exact e = impossible (cc)
complete_tests false true false true true exact e = impossible (cc)
complete_tests false true false true false true e = (refl, refl, refl)
complete_tests false true false true false false e = impossible (cc)

partial_start : (empty right short fits early exact : Bool) → answer_of empty right short fits early exact ≡ Partial
    → empty ≡ false → right ≡ true
partial_start true right short fits early exact e n = impossible (cc)
partial_start false true short fits early exact e n = refl
partial_start false false short fits early exact e n = impossible (cc)

partial_length : (empty right short fits early exact : Bool) → answer_of empty right short fits early exact ≡ Partial
    → empty ≡ false → short ≡ false → (fits ≡ true) × (early ≡ true)
partial_length true right short fits early exact e n m = impossible (cc)
partial_length false false short fits early exact e n m = impossible (cc)
partial_length false true true fits early exact e n m = impossible (cc)
partial_length false true false false early exact e n m = impossible (cc)
partial_length false true false true true exact e n m = (refl, refl)
partial_length false true false true false true e n m = impossible (cc)
partial_length false true false true false false e n m = impossible (cc)

partial_so : (empty right short fits early exact : Bool) → (empty ≡ false → right ≡ true) → (short ≡ false → fits ≡ true) → (short ≡ false → early ≡ true)
    → answer_of empty right short fits early exact ≡ Partial
partial_so true right short fits early exact r f l = refl
partial_so false right true fits early exact r f l = rw (r refl) refl
partial_so false right false fits early exact r f l = rw (r refl, f refl, l refl) refl

unfit_tests : (empty right short fits early exact : Bool) → answer_of empty right short fits early exact ≡ Unfit → (short ≡ false) × (fits ≡ false)
unfit_tests true right short fits early exact e = impossible (cc)
unfit_tests false false short fits early exact e = impossible (cc)
unfit_tests false true true fits early exact e = impossible (cc)
unfit_tests false true false false early exact e = (refl, refl)
unfit_tests false true false true true exact e = impossible (cc)
unfit_tests false true false true false true e = impossible (cc)
unfit_tests false true false true false false e = impossible (cc)

-- one whole packet of a kind
pub record Whole (kind : Kind) (q : List ℕ) : Type 0 where
  pub start : get_or q 0 0 ≡ start_of kind
  pub permits : permitted kind (length_of q) ≡ true
  pub count : length q ≡ length_of q + 5

-- nothing yet, or a packet of which bytes are still to come
pub record Held (kind : Kind) (q : List ℕ) : Type 0 where
  pub start : 0 < length q → get_or q 0 0 ≡ start_of kind
  pub permits : 3 ≤ length q → permitted kind (length_of q) ≡ true
  pub count : 3 ≤ length q → length q < length_of q + 5

module _ (kind : Kind) (q : List ℕ) where
  -- the tests, of these bytes
  abbrev empty : Bool
  empty = eqb (length q) 0

  abbrev right : Bool
  right = eqb (get_or q 0 0) (start_of kind)

  abbrev short : Bool
  short = ltb (length q) 3

  abbrev fits : Bool
  fits = permitted kind (length_of q)

  abbrev early : Bool
  early = ltb (length q) (length_of q + 5)

  abbrev exact : Bool
  exact = eqb (length q) (length_of q + 5)

  pub whole : progress_of kind q ≡ Complete → Whole kind q
  unfolding progress_of measured_of
  whole e =
      let t = complete_tests empty right short fits early exact e in
      record { start = eqb-true (get_or q 0 0) (start_of kind) t.0; permits = t.1; count = eqb-true (length q) (length_of q + 5) t.2 }

  pub complete : Whole kind q → progress_of kind q ≡ Complete
  unfolding progress_of measured_of
  complete w =
      let e : length q ≡ 0 → ⊥ = λ z. omega (arith, w.count) in
      let s : 3 ≤ length q = omega (arith, w.count) in
      let c : length_of q + 5 ≤ length q = omega (arith, w.count) in
      simp (ne_eqb _ _ e, eq-eqb _ _ w.start, le-ltb _ _ s, w.permits, le-ltb _ _ c, eq-eqb _ _ w.count)

  pub held : progress_of kind q ≡ Partial → Held kind q
  unfolding progress_of measured_of
  held e =
      let some : 0 < length q → empty ≡ false = λ h. ne_eqb (length q) 0 (λ z. omega arith) in
      let told : 3 ≤ length q → (fits ≡ true) × (early ≡ true) =
      λ h. partial_length empty right short fits early exact e (some (omega arith)) (le-ltb (length q) 3 h) in
      record {
        start = λ h. eqb-true (get_or q 0 0) (start_of kind) (partial_start empty right short fits early exact e (some h));
        permits = λ h. (told h).0;
        count = λ h. ltb-true (length q) (length_of q + 5) (told h).1;
      }

  pub partial : Held kind q → progress_of kind q ≡ Partial
  unfolding progress_of measured_of
  partial h =
      let some : empty ≡ false → 0 < length q = λ e. omega (arith, eqb-false (length q) 0 e) in
      partial_so empty right short fits early exact
      (λ e. eq-eqb (get_or q 0 0) (start_of kind) (h.start (some e)))
      (λ s. h.permits (ltb-false (length q) 3 s))
      (λ s. lt-ltb (length q) (length_of q + 5) (h.count (ltb-false (length q) 3 s)))

  -- bytes that are held are fewer than a longest packet has
  pub held_below : progress_of kind q ≡ Partial → length q < longest_of kind + 5
  held_below e = by_length short refl
    where
      by_length : (t : Bool) → short ≡ t → length q < longest_of kind + 5
      by_length true s = omega (arith, ltb-true (length q) 3 s)
      by_length false s =
          let h = held e in
          let l : 3 ≤ length q = ltb-false (length q) 3 s in
          omega (arith, h.count l, permitted_most kind (length_of q) (h.permits l))

  -- a byte that starts no packet of the kind
  pub astray : 0 < length q → (get_or q 0 0 ≡ start_of kind → ⊥) → progress_of kind q ≡ Astray
  unfolding progress_of
  astray h d =
      let e : length q ≡ 0 → ⊥ = λ z. omega arith in
      simp (ne_eqb _ _ e, ne_eqb _ _ d)

  -- a length outside its range is told right behind the second length byte
  pub unfit : 3 ≤ length q → get_or q 0 0 ≡ start_of kind → permitted kind (length_of q) ≡ false → progress_of kind q ≡ Unfit
  unfolding progress_of measured_of
  unfit h s f =
      let e : length q ≡ 0 → ⊥ = λ z. omega arith in
      simp (ne_eqb _ _ e, eq-eqb _ _ s, le-ltb _ _ h, f)

-- what the front of a whole packet says
module _ (q more : List ℕ) where
  front_start : 0 < length q → get_or q 0 0 ≡ get_or (q ++ more) 0 0
  front_start h = sym (get_or-append q more 0 0 h)

  pub front_says : 3 ≤ length q → length_of q ≡ length_of (q ++ more)
  unfolding length_of
  front_says h =
      let l : 2 ≤ length (drop 1 q) = rw length-drop (omega arith) in
      rw (drop-append-le 1 q more (omega arith), take-append-le 2 (drop 1 q) more l) refl

-- a packet that comes byte by byte is held until its last byte
pub held_until : (kind : Kind) (q : List ℕ) (b : ℕ) (more : List ℕ) → progress_of kind (q ++ b ∷ more) ≡ Complete → progress_of kind q ≡ Partial
held_until kind q b more e =
    let w = whole kind (q ++ b ∷ more) e in
    let n = length-append q (b ∷ more) in
    partial kind q (record {
      start = λ h. front_start q (b ∷ more) h ∙ w.start;
      permits = λ h. rw (front_says q (b ∷ more) h) w.permits;
      count = λ h. rw (front_says q (b ∷ more) h) (omega (arith, w.count, n));
    })

-- a length is refused by the byte that brings it, and not later
unfit_told : (kind : Kind) (q : List ℕ) → progress_of kind q ≡ Unfit → (3 ≤ length q) × (permitted kind (length_of q) ≡ false)
unfolding progress_of measured_of
unfit_told kind q e =
    let t = unfit_tests (empty kind q) (right kind q) (short kind q) (fits kind q) (early kind q) (exact kind q) e in
    (ltb-false (length q) 3 t.0, t.1)

pub unfit_third : (kind : Kind) (q : List ℕ) (b : ℕ) → progress_of kind q ≡ Partial → progress_of kind (q ++ b ∷ []) ≡ Unfit → length (q ++ b ∷ []) ≡ 3
unfit_third kind q b h e = by (ltb (length q) 3) refl
  where
    by : (t : Bool) → ltb (length q) 3 ≡ t → length (q ++ b ∷ []) ≡ 3
    by true s = omega (arith, length-append q (b ∷ []), (unfit_told kind (q ++ b ∷ []) e).0, ltb-true (length q) 3 s)
    by false s =
        let w : 3 ≤ length q = ltb-false (length q) 3 s in
        let yes : permitted kind (length_of q) ≡ true = (held kind q h).permits w in
        let no : permitted kind (length_of q) ≡ false = ap (permitted kind) (front_says q (b ∷ []) w) ∙ (unfit_told kind (q ++ b ∷ []) e).1 in
        impossible (cc)

-- for either kind
pub held_few : (kind : Kind) (q : List ℕ) → progress_of kind q ≡ Partial → length q < 1030
held_few kind q e = omega (arith, held_below kind q e, longest_most kind)

-- a packet of one kind is none of the other
pub data_no_command : (q : List ℕ) → progress_of Data q ≡ Complete → progress_of Command q ≡ Astray
data_no_command q e =
    let w = whole Data q e in
    astray Command q (omega (arith, w.count)) (λ z. omega (arith, w.start))

pub command_no_data : (q : List ℕ) → progress_of Command q ≡ Complete → progress_of Data q ≡ Astray
command_no_data q e =
    let w = whole Command q e in
    astray Data q (omega (arith, w.count)) (λ z. omega (arith, w.start))

-- a good packet: whole, of one of the kinds, with right ETX and SUM
pub record Good (q : List ℕ) : Type 0 where
  pub kind : Kind
  pub is : Whole kind q
  pub ends : ends_well q ≡ true

pub is_complete_lem : (p : Progress) → is_complete p ≡ true → p ≡ Complete
is_complete_lem Astray e = impossible (cc)
is_complete_lem Partial e = impossible (cc)
is_complete_lem Unfit e = impossible (cc)
is_complete_lem Complete e = refl
is_complete_lem Excess e = impossible (cc)

good_tests : (q : List ℕ) (one other : Bool) → is_complete (progress_of Command q) ≡ one → is_complete (progress_of Data q) ≡ other
    → ends_well q ≡ true → (one || other) ≡ true → Good q
good_tests q true other c d e h = record { kind = Command; is = whole Command q (is_complete_lem (progress_of Command q) c); ends = e }
good_tests q false true c d e h = record { kind = Data; is = whole Data q (is_complete_lem (progress_of Data q) d); ends = e }
good_tests q false false c d e h = impossible (cc)

pub good_is : (q : List ℕ) → good q ≡ true → Good q
unfolding good
good_is q e =
    let t = both (is_complete (progress_of Command q) || is_complete (progress_of Data q)) (ends_well q) e in
    good_tests q (is_complete (progress_of Command q)) (is_complete (progress_of Data q)) refl refl t.1 t.0

pub good_so : (kind : Kind) (q : List ℕ) → progress_of kind q ≡ Complete → ends_well q ≡ true → good q ≡ true
unfolding good
good_so Command q c e = rw (c, e) refl
good_so Data q c e = rw (data_no_command q c, c, e) refl
