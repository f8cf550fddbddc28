-- What reading and writing a field need, once over the width; what std makes of two bytes and of four. Assumes nothing.
use mathlib.Core.Bool.{Bool, true, false, not}
use mathlib.Core.List.{List, [], ◌∷◌, ◌++◌, append_assoc, append-nil}
use mathlib.Core.Path.{◌≡◌, refl, sym, ◌∙◌}
use Prim.Native.Nat.{ℕ, ◌+◌, ◌-◌, ◌≤◌, ◌<◌}
use native.Mathlib.Nat.{zero-add, div-one}
use native.Mathlib.Omega.{arith}
use lib.ListN.{length, take, drop, length-drop, drop_of_length-le}
use lib.Seq.{sets, sets-eq, drop-drop, take_all}
use lib.Dec.{leb}
use borrow.Author.Tests.{le-leb, lt-leb, leb-true, not-false}
use Rattle.std.proofs.lemmas.Bool.Decides.{nat_tests}
use Rattle.std.proofs.lemmas.List.{take-append-drop}
use Rattle.std.specs.Prelude.{cond, Some, None}
use Rattle.std.specs.Int.{w16, w32, from_be_bytes, to_be_bytes}
use Rattle.numbers.specs.Bytes.{number, bytes_of, value_at, with_number, Put}
use Rattle.numbers.proofs.RoundTrip.{bytes_length}

-- what std makes of two bytes and of four, and of a number
pub number_two : (bs : List ℕ) → length bs ≡ 2 → from_be_bytes w16 bs ≡ number bs
unfolding number
number_two (a ∷ b ∷ []) h = omega arith
number_two [] h = absurd (omega arith)
number_two (a ∷ []) h = absurd (omega arith)
number_two (a ∷ b ∷ c ∷ bs) h = absurd (omega arith)

pub number_four : (bs : List ℕ) → length bs ≡ 4 → from_be_bytes w32 bs ≡ number bs
unfolding number
number_four (a ∷ b ∷ c ∷ d ∷ []) h = omega arith
number_four [] h = absurd (omega arith)
number_four (a ∷ []) h = absurd (omega arith)
number_four (a ∷ b ∷ []) h = absurd (omega arith)
number_four (a ∷ b ∷ c ∷ []) h = absurd (omega arith)
number_four (a ∷ b ∷ c ∷ d ∷ e ∷ bs) h = absurd (omega arith)

pub two_bytes : (n : ℕ) → to_be_bytes w16 n ≡ bytes_of 2 n
unfolding bytes_of
two_bytes n = rw div-one refl

pub four_bytes : (n : ℕ) → to_be_bytes w32 n ≡ bytes_of 4 n
unfolding bytes_of
four_bytes n = rw div-one refl

-- whether there is room for a field is the same from its place on
room_from : (w at n : ℕ) → at ≤ n → leb (0 + w) (n - at) ≡ leb (at + w) n
room_from w at n h = grind (arith, nat_tests)

-- what a list has from a place on, as a slice of it is lent
rest_whole : (at : ℕ) (l : List ℕ) → length (drop at l) ≤ length l - at
rest_whole at l = rw length-drop (omega arith)

-- a number is read at a place as it is read at the front of what the list has from there on
module _ {N : Type 0} (of : ℕ → N) (w : ℕ) (s : List ℕ) where
  pub number_first : (bytes : List ℕ) (n : ℕ) → w ≤ length s → bytes ≡ take w s → n ≡ number bytes → Some (of n) ≡ value_at of w s 0
  unfolding value_at
  number_first bytes n h b e = rw (zero-add, le-leb w (length s) h, e, b) refl

  pub read_inside : (at : ℕ) (rest : List ℕ) → at ≤ length s → rest ≡ take (length s - at) (drop at s) → value_at of w rest 0 ≡ value_at of w s at
  unfolding value_at
  read_inside at rest h e = rw (e, take_all (length s - at) (drop at s) (rest_whole at s), length-drop, room_from w at (length s) h) refl

  pub read_outside : (at : ℕ) → length s < at + w → None ≡ value_at of w s at
  unfolding value_at
  read_outside at h = rw (lt-leb (at + w) (length s) h) refl

-- and written so
module _ (w n : ℕ) (l : List ℕ) where
  pub put_first : (bytes : List ℕ) → w ≤ length l → bytes ≡ bytes_of w n → Put w n 0 l (bytes ++ drop w l) true
  unfolding with_number
  put_first bytes h e =
      let k : 0 + length (bytes_of w n) ≤ length l = rw bytes_length (omega arith) in
      let v : length (bytes_of w n) ≡ w = bytes_length w n in
      let there : leb (0 + w) (length l) ≡ true = le-leb (0 + w) (length l) (omega arith) in
      record { answers = sym there; leaves = rw (there, e, sets-eq (bytes_of w n) l 0 k, v, zero-add) refl }

  sets_from : (at : ℕ) (vs : List ℕ) → at + length vs ≤ length l → take at l ++ sets (drop at l) 0 vs ≡ sets l at vs
  sets_from at vs h =
      let k : 0 + length vs ≤ length (drop at l) = rw length-drop (omega arith) in
      rw (sets-eq vs l at h, sets-eq vs (drop at l) 0 k, drop-drop, zero-add) (sym (append_assoc (take at l) vs (drop (at + length vs) l)))

  rest_put : (at : ℕ) (there : Bool) → leb (at + w) (length l) ≡ there
      → take at l ++ cond there (sets (drop at l) 0 (bytes_of w n)) (drop at l) ≡ cond there (sets l at (bytes_of w n)) l
  rest_put at true e = let h : at + w ≤ length l = leb-true (at + w) (length l) e in sets_from at (bytes_of w n) (rw bytes_length h)
  rest_put at false e = take-append-drop at l

  pub put_inside : (at : ℕ) (rest : List ℕ) (written : Bool) → at ≤ length l → Put w n 0 (take (length l - at) (drop at l)) rest written
      → Put w n at l (take at l ++ (rest ++ drop (length l - at) (drop at l))) written
  unfolding with_number
  put_inside at rest written h p =
      let q : Put w n 0 (drop at l) rest written = rw (take_all (length l - at) (drop at l) (rest_whole at l)) at p in
      let none : drop (length l - at) (drop at l) ≡ [] = drop_of_length-le (drop at l) (rest_whole at l) in
      let there : leb (0 + w) (length (drop at l)) ≡ leb (at + w) (length l) = rw length-drop (room_from w at (length l) h) in
      record { answers = q.answers ∙ there; leaves = rw (none, append-nil, q.leaves, there) (rest_put at (leb (at + w) (length l)) refl) }

  pub put_outside : (at : ℕ) → length l < at + w → Put w n at l l false
  unfolding with_number
  put_outside at h =
      let short : leb (at + w) (length l) ≡ false = lt-leb (at + w) (length l) h in
      record { answers = sym short; leaves = rw short refl }

-- what the test for a field says
pub room : (at w n : ℕ) (r : Bool) → r ≡ leb (at + w) n → not r ≡ false → at + w ≤ n
room at w n r e t = leb-true (at + w) n (sym e ∙ not-false r t)
