-- What the code's tests say of a record's fields. Assumes nothing.
use mathlib.Core.Bool.{Bool, true, false, ◌&&◌, cond}
use mathlib.Core.List.{List, [], ◌∷◌}
use mathlib.Core.Path.{◌≡◌, refl, sym, ap, ◌∙◌}
use Prim.Native.Nat.{ℕ, suc, ◌+◌, ◌≤◌}
use native.Mathlib.Omega.{arith}
use lib.ListN.{length, take, drop, get_or}
use lib.Dec.{leb, eqb}
use lib.Seq.{drop-cons}
use borrow.Author.Tests.{le-leb, eq-eqb, ne_eqb, eqb-true}
use Rattle.numbers.specs.Bytes.{field, number}
use Rattle.numbers.proofs.Laws.{number_two}
use Rattle.numbers.specs.Same.{same}
use Rattle.verdict.specs.Check.{first_fault}
use Rattle.recording.specs.declared.Direction.{Direction}
use Rattle.recording.specs.declared.Direction.TheVariants.{Host, Device, Reset}
use Rattle.recording.specs.declared.Fault.TheVariants.{BadMark, BadDirection, BadLength, CutShort}
use Rattle.recording.specs.declared.Found.{Found}
use Rattle.recording.specs.declared.Found.TheVariants.{Is, End, Refused}
use Rattle.recording.specs.Format.{mark, direction_number, directed_in, directed_of, length_allowed}
use Rattle.std.specs.Prelude.{Some, None}
use Rattle.std.specs.Int.{w16, from_be_bytes}
use Rattle.recording.specs.Recording.{count_at, direction_at, part_at, length_checks, read_checks, found_by, found_at}

-- the directions and their numbers
pub directed_back : (d : Direction) → directed_of (direction_number d) ≡ Some d
unfolding directed_of directed_in
directed_back Host = refl
directed_back Device = refl
directed_back Reset = refl

known_in : (ds : List Direction) (n : ℕ) (d : Direction) → directed_in ds n ≡ Some d → n ≡ direction_number d
unfolding directed_in
known_in [] n d e = let z : ◌≡◌ {A = ℕ} 0 1 = cc in absurd (omega arith)
known_in (x ∷ more) n d e = by (eqb n (direction_number x)) refl (known_in more n d) e
  where
    by : (t : Bool) → eqb n (direction_number x) ≡ t → (directed_in more n ≡ Some d → n ≡ direction_number d) → cond t (Some x) (directed_in more n) ≡ Some d
        → n ≡ direction_number d
    by true t later k = let same-direction : x ≡ d = cc in eqb-true n (direction_number x) t ∙ ap direction_number same-direction
    by false t later k = later k

pub directed_number : (n : ℕ) (d : Direction) → directed_of n ≡ Some d → n ≡ direction_number d
unfolding directed_of
directed_number n d e = known_in (Host ∷ Device ∷ Reset ∷ []) n d e

pub direction_once : (d e : Direction) → direction_number d ≡ direction_number e → d ≡ e
direction_once d e h = let k : Some d ≡ Some e = sym (directed_back d) ∙ ap directed_of h ∙ directed_back e in cc

-- two bytes that stand side by side
field_two : (s : List ℕ) (at : ℕ) → at + 2 ≤ length s → get_or s at 0 ∷ get_or s (at + 1) 0 ∷ [] ≡ field 2 at s
field_two s at h =
    let one : suc at ≡ at + 1 = omega arith in
    let rest : drop (suc at) s ≡ get_or s (at + 1) 0 ∷ drop (suc (at + 1)) s =
    ap (λ (i : ℕ). drop i s) one ∙ drop-cons s (at + 1) 0 (omega arith) in
    let e : drop at s ≡ get_or s at 0 ∷ get_or s (at + 1) 0 ∷ drop (suc (at + 1)) s =
    drop-cons s at 0 (omega arith) ∙ ap (λ (l : List ℕ). get_or s at 0 ∷ l) rest in
    rw e refl

-- the length, read as the code reads it
pub count_is : (s : List ℕ) (at : ℕ) → at + 5 ≤ length s → from_be_bytes w16 (get_or s (at + 3) 0 ∷ get_or s (at + 4) 0 ∷ []) ≡ count_at s at
unfolding count_at
count_is s at h =
    let next : at + 3 + 1 ≡ at + 4 = omega arith in
    number_two (get_or s (at + 3) 0 ∷ get_or s (at + 4) 0 ∷ []) refl
    ∙ ap (λ (i : ℕ). number (get_or s (at + 3) 0 ∷ get_or s i 0 ∷ [])) (sym next)
    ∙ ap number (field_two s (at + 3) (omega arith))

-- a mark that is whole, byte by byte
pub mark_is : (s : List ℕ) (at : ℕ) → at + 2 ≤ length s → eqb (get_or s at 0) 0x52 && eqb (get_or s (at + 1) 0) 0x4C ≡ same (field 2 at s) mark
unfolding same
mark_is s at h =
    both (eqb (get_or s at 0) 0x52) (eqb (get_or s (at + 1) 0) 0x4C) ∙ ap (λ (l : List ℕ). same l mark) (field_two s at h)
  where
    both : (a b : Bool) → a && b ≡ a && (b && true)
    both true true = refl
    both true false = refl
    both false true = refl
    both false false = refl

-- a record from its length on, by the tests in their order
module _ (s : List ℕ) (at : ℕ) (d : Direction) where
  abbrev from_length : Found
  from_length = found_by (first_fault (length_checks s at (direction_number d))) (Some d) (part_at s at)

  pub head_cut : leb (at + 5) (length s) ≡ false → Refused CutShort ≡ from_length
  unfolding length_checks first_fault
  head_cut e = rw e refl

  module _ (h : leb (at + 5) (length s) ≡ true) where
    pub length_bad : length_allowed (direction_number d) (count_at s at) ≡ false → Refused BadLength ≡ from_length
    unfolding length_checks first_fault
    length_bad e = rw (h, e) refl

    module _ (a : length_allowed (direction_number d) (count_at s at) ≡ true) where
      pub bytes_cut : leb (at + 5 + count_at s at) (length s) ≡ false → Refused CutShort ≡ from_length
      unfolding length_checks first_fault
      bytes_cut e = rw (h, a, e) refl

      pub bytes_there : leb (at + 5 + count_at s at) (length s) ≡ true → Is d (part_at s at) ≡ from_length
      unfolding length_checks first_fault
      bytes_there e = rw (h, a, e) refl

-- and from its mark on
module _ (s : List ℕ) (at : ℕ) where
  pub found_end : at ≡ length s → End ≡ found_at s at
  unfolding found_at
  found_end e = rw (eq-eqb at (length s) e) refl

  module _ (off : at ≡ length s → ⊥) where
    pub mark_cut : leb (at + 2) (length s) ≡ false → Refused CutShort ≡ found_at s at
    unfolding found_at read_checks first_fault
    mark_cut e = rw (ne_eqb at (length s) off, e) refl

    module _ (h : leb (at + 2) (length s) ≡ true) where
      pub mark_bad : same (field 2 at s) mark ≡ false → Refused BadMark ≡ found_at s at
      unfolding found_at read_checks first_fault
      mark_bad e = rw (ne_eqb at (length s) off, h, e) refl

      module _ (m : same (field 2 at s) mark ≡ true) where
        pub direction_cut : leb (at + 3) (length s) ≡ false → Refused CutShort ≡ found_at s at
        unfolding found_at read_checks first_fault
        direction_cut e = rw (ne_eqb at (length s) off, h, m, e) refl

        module _ (k : leb (at + 3) (length s) ≡ true) where
          pub direction_bad : directed_of (direction_at s at) ≡ None → Refused BadDirection ≡ found_at s at
          unfolding found_at read_checks first_fault
          direction_bad e = rw (ne_eqb at (length s) off, h, m, k, e) refl

          pub direction_known : (d : Direction) → directed_of (direction_at s at) ≡ Some d → from_length s at d ≡ found_at s at
          unfolding found_at read_checks first_fault
          direction_known d e = rw (ne_eqb at (length s) off, h, m, k, e, directed_number (direction_at s at) d e) refl
