-- What stands for bytes that a packet lacks decides nothing, and one byte more than are held is never one too many. Assumes nothing.
use Rattle.std.proofs.Common.{◌≡◌, ℕ, ◌+◌, ◌-◌, ◌<◌, ◌≤◌, Bool, true, false, eqb, ltb, List, [], ◌∷◌, ◌++◌, length, get_or, drop, refl, arith, length-append, length-drop, length-take-le, ltb-false, ltb-true}
use borrow.Author.Tests.{eqb-false}
use Rattle.numbers.specs.Bytes.{field}
use Rattle.numbers.proofs.There.{entry_there, field_there}
use Rattle.packet.specs.declared.Kind.{Kind}
use Rattle.packet.specs.declared.Progress.TheVariants.{Partial, Complete, Excess}
use Rattle.packet.specs.Packet.{start_of, permitted, length_of, measured_of, progress_of, etx_of, summed, contents_of}
use Rattle.packet.proofs.Laws.{impossible, permitted_least}
use Rattle.packet.proofs.Gathering.{answer_of, front_says, held, whole}

-- the start byte is looked at only where there is one, and the length only where both its bytes are there
pub start_there : (q : List ℕ) → (length q ≡ 0 → ⊥) → (d : ℕ) → get_or q 0 d ≡ get_or q 0 0
start_there q h d = entry_there q 0 d 0 (omega arith)

pub length_whole : (q : List ℕ) → 3 ≤ length q → length (field 2 1 q) ≡ 2
length_whole q h = field_there 2 1 q h

-- a complete packet
module _ (kind : Kind) (q : List ℕ) (complete : progress_of kind q ≡ Complete) where
  -- has start byte, two of length, COM or RES, SUM and ETX
  pub complete_least : 6 ≤ length q
  complete_least =
      let w = whole kind q complete in
      omega (arith, w.count, permitted_least kind (length_of q) w.permits)

  pub etx_there : (d : ℕ) → get_or q (length q - 1) d ≡ etx_of q
  etx_there d = entry_there q (length q - 1) d 0 (omega (arith, complete_least))

  -- nothing that is taken of it is cut short
  pub summed_whole : length (summed q) ≡ length q - 2
  summed_whole =
      let k : length q - 2 ≤ length (drop 1 q) = rw length-drop (omega (arith, complete_least)) in
      length-take-le (length q - 2) (drop 1 q) k

  pub contents_whole : length (contents_of q) ≡ length_of q
  contents_whole = field_there (length_of q) 3 q (omega (arith, (whole kind q complete).count))

-- the tests that lead to an excess
excess_tests : (empty right short fits early exact : Bool) → answer_of empty right short fits early exact ≡ Excess
    → (short ≡ false) × (fits ≡ true) × (early ≡ false) × (exact ≡ false)
excess_tests true right short fits early exact e = impossible (cc)
excess_tests false false short fits early exact e = impossible (cc)
excess_tests false true true fits early exact e = impossible (cc)
excess_tests false true false false early exact e = impossible (cc)
excess_tests false true false true true exact e = impossible (cc)
excess_tests false true false true false true e = impossible (cc)
excess_tests false true false true false false e = (refl, refl, refl, refl)

-- bytes that are more than a packet
record Over (kind : Kind) (q : List ℕ) : Type 0 where
  permits : permitted kind (length_of q) ≡ true
  over : length_of q + 5 < length q

excess : (kind : Kind) (q : List ℕ) → progress_of kind q ≡ Excess → Over kind q
unfolding progress_of measured_of
excess kind q e =
    let early : Bool = ltb (length q) (length_of q + 5) in
    let exact : Bool = eqb (length q) (length_of q + 5) in
    let t = excess_tests (eqb (length q) 0) (eqb (get_or q 0 0) (start_of kind)) (ltb (length q) 3) (permitted kind (length_of q)) early exact e in
    record { permits = t.1; over = omega (arith, ltb-false (length q) (length_of q + 5) t.2, eqb-false (length q) (length_of q + 5) t.3) }

-- bytes that are held are a packet's front, so with one more they are at most a packet
pub no_excess : (kind : Kind) (q : List ℕ) (b : ℕ) → progress_of kind q ≡ Partial → progress_of kind (q ++ b ∷ []) ≡ Excess → ⊥
no_excess kind q b p e = by_length (ltb (length q) 3) refl
  where
    by_length : (t : Bool) → ltb (length q) 3 ≡ t → ⊥
    by_length true s =
        let x = excess kind (q ++ b ∷ []) e in
        omega (arith, ltb-true (length q) 3 s, x.over, length-append q (b ∷ []), permitted_least kind (length_of (q ++ b ∷ [])) x.permits)
    by_length false s =
        let x = excess kind (q ++ b ∷ []) e in
        let l : 3 ≤ length q = ltb-false (length q) 3 s in
        omega (arith, x.over, length-append q (b ∷ []), front_says q (b ∷ []) l, (held kind q p).count l)
