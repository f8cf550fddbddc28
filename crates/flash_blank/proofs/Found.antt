-- What the blank search comes to, byte by byte. Assumes nothing.
use mathlib.Core.Bool.{Bool, true, false}
use mathlib.Core.List.{List, [], ◌∷◌}
use mathlib.Core.Path.{◌≡◌, refl, sym, ap, subst, ◌∙◌}
use Prim.Native.Nat.{ℕ, zero, suc, ◌+◌, ◌*◌, ◌/◌, ◌≤◌, ◌<◌, max}
use native.Mathlib.Nat.{lt_of_lt_of_le, div-mul-le_self, lt-div-mul-add, add-mul, one-mul}
use native.Mathlib.Omega.{arith}
use lib.Dec.{eqb}
use lib.ListN.{length, get_or}
use borrow.Author.Tests.{eq-eqb, eqb-true, eqb-false}
use Rattle.std.specs.Prelude.{Option, Some, None}
use Rattle.flash_blank.specs.Blank.{searched_from, searched}

-- all bytes are FFh
abbrev pub AllBlank : List ℕ → Type 0
AllBlank l = (k : ℕ) → k < length l → get_or l k 0 ≡ 0xFF

blank_cons : (b : ℕ) (bs : List ℕ) → b ≡ 0xFF → AllBlank bs → AllBlank (b ∷ bs)
blank_cons b bs e all zero h = e
blank_cons b bs e all (suc k) h = all k (omega arith)

blank_tail : (b : ℕ) (bs : List ℕ) → AllBlank (b ∷ bs) → AllBlank bs
blank_tail b bs all k h = all (suc k) (omega arith)

blank_front : (b : ℕ) (bs : List ℕ) (place : ℕ) → b ≡ 0xFF → ((k : ℕ) → k < place → get_or bs k 0 ≡ 0xFF) → (k : ℕ) → k < suc place → get_or (b ∷ bs) k 0 ≡ 0xFF
blank_front b bs place e before zero h = e
blank_front b bs place e before (suc k) h = before k (omega arith)

-- the first byte that is not FFh, in a search from place i on, and its unit
record Met (unit i n : ℕ) (l : List ℕ) : Type 0 where
  place : ℕ
  within : place < length l
  other : get_or l place 0 ≡ 0xFF → ⊥
  number : (i + place) / unit ≡ n
  before : (k : ℕ) → k < place → get_or l k 0 ≡ 0xFF

-- what an answer says of the bytes
abbrev Tells : ℕ → ℕ → List ℕ → Option ℕ → Type 0
Tells unit i l None = AllBlank l
Tells unit i l (Some n) = Met unit i n l

tells_more : (unit i b : ℕ) (bs : List ℕ) (r : Option ℕ) → b ≡ 0xFF → Tells unit (i + 1) bs r → Tells unit i (b ∷ bs) r
tells_more unit i b bs None e t = blank_cons b bs e t
tells_more unit i b bs (Some n) e t =
    let s : i + suc t.place ≡ i + 1 + t.place = omega arith in
    record {
      place = suc t.place;
      within = omega (arith, t.within);
      other = t.other;
      number = ap (λ (k : ℕ). k / unit) s ∙ t.number;
      before = blank_front b bs t.place e t.before;
    }

tells_by : (unit i b : ℕ) (bs : List ℕ) (t : Bool) → eqb b 0xFF ≡ t → Tells unit (i + 1) bs (searched_from unit (i + 1) bs) → Tells unit i (b ∷ bs) (searched_from unit i (b ∷ bs))
unfolding searched_from
tells_by unit i b bs true e later = rw e (tells_more unit i b bs (searched_from unit (i + 1) bs) (eqb-true b 0xFF e) later)
tells_by unit i b bs false e later =
    let z : i + 0 ≡ i = omega arith in
    rw e
    (record {
      place = 0;
      within = omega arith;
      other = eqb-false b 0xFF e;
      number = ap (λ (k : ℕ). k / unit) z;
      before = λ k h. absurd (omega arith);
    })

tells : (unit i : ℕ) (l : List ℕ) → Tells unit i l (searched_from unit i l)
unfolding searched_from
tells unit i [] = λ k h. absurd (omega arith)
tells unit i (b ∷ bs) = tells_by unit i b bs (eqb b 0xFF) refl (tells unit (i + 1) bs)

clean_from : (unit i : ℕ) (l : List ℕ) → AllBlank l → searched_from unit i l ≡ None
unfolding searched_from
clean_from unit i [] all = refl
clean_from unit i (b ∷ bs) all = rw (eq-eqb b 0xFF (all 0 (omega arith))) (clean_from unit (i + 1) bs (blank_tail b bs all))

-- unit n is the first that holds another byte than FFh
pub record FirstDirty (unit n : ℕ) (l : List ℕ) : Type 0 where
  pub before : (k : ℕ) → k < n * unit → get_or l k 0 ≡ 0xFF
  pub place : ℕ
  pub first : n * unit ≤ place
  pub last : place < (n + 1) * unit
  pub within : place < length l
  pub other : get_or l place 0 ≡ 0xFF → ⊥

-- the search answers clean exactly where all bytes are FFh, and else the first unit that is not blank
module _ (unit : ℕ) (target : List ℕ) where
  pub clean_blank : searched unit target ≡ None → AllBlank target
  unfolding searched
  clean_blank e = subst (Tells (max unit 1) 0 target) e (tells (max unit 1) 0 target)

  pub blank_clean : AllBlank target → searched unit target ≡ None
  unfolding searched
  blank_clean all = clean_from (max unit 1) 0 target all

  pub dirty_first : (n : ℕ) → searched unit target ≡ Some n → FirstDirty (max unit 1) n target
  unfolding searched
  dirty_first n e =
      let u = max unit 1 in
      let m : Met u 0 n target = subst (Tells u 0 target) e (tells u 0 target) in
      let z : 0 + m.place ≡ m.place = omega arith in
      let q : m.place / u ≡ n = ap (λ (k : ℕ). k / u) (sym z) ∙ m.number in
      let lo : n * u ≤ m.place = rw q at (div-mul-le_self m.place u) in
      let p : 0 < u = omega arith in
      let hi : m.place < n * u + u = rw q at (lt-div-mul-add {a = m.place} p) in
      record {
        before = λ k h. m.before k (lt_of_lt_of_le h lo);
        place = m.place;
        first = lo;
        last = rw (add-mul, one-mul) hi;
        within = m.within;
        other = m.other;
      }
