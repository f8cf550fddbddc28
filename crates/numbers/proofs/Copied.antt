-- A list copied over another: where it is as long, nothing else is left. Assumes nothing.
use mathlib.Core.List.{List, ◌++◌, append-nil, append_assoc}
use mathlib.Core.Path.{◌≡◌, sym}
use Prim.Native.Nat.{ℕ, ◌+◌, ◌-◌, ◌≤◌}
use native.Mathlib.Omega.{arith}
use lib.ListN.{length, take, drop, length-drop, drop_of_length-le}
use lib.Seq.{take_all, drop-drop, length-take-le}

-- by a count that neither list goes beyond
pub covered : (n : ℕ) (s l : List ℕ) → length s ≤ n → length l ≤ n → take n s ++ drop n l ≡ s
covered n s l h k = rw (drop_of_length-le l k, take_all n s h) (append-nil s)

-- by its own length, as code copies it
pub copied : (s l : List ℕ) → length l ≡ length s → s ++ drop (length s) l ≡ s
copied s l e = let h : length l ≤ length s = omega arith in rw (drop_of_length-le l h) (append-nil s)

-- the part of a list from place lo up to, not including, hi
module _ (lo hi : ℕ) (l : List ℕ) (h : hi ≤ length l) where
  pub part_count : length (take (hi - lo) (drop lo l)) ≡ hi - lo
  part_count = length-take-le (hi - lo) (drop lo l) (rw length-drop (omega arith))

  -- the list with such a part copied over
  pub pasted : lo ≤ hi → (s new : List ℕ) → length (take (hi - lo) (drop lo l)) ≡ length s
      → new ≡ s ++ drop (length s) (take (hi - lo) (drop lo l))
      → take lo l ++ (new ++ drop (hi - lo) (drop lo l)) ≡ take lo l ++ s ++ drop hi l
  pasted o s new e f =
      let k : lo + (hi - lo) ≡ hi = omega arith in
      rw (f, copied s (take (hi - lo) (drop lo l)) e, drop-drop, k) (sym (append_assoc (take lo l) s (drop hi l)))
