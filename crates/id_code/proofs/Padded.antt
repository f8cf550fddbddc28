-- Bytes of a list from a place on, copied in one piece over a padding, which stays where the list has none. Assumes nothing.
use mathlib.Core.List.{List, [], ◌∷◌, ◌++◌}
use mathlib.Core.Path.{◌≡◌, refl, sym, ap, ◌∙◌}
use Prim.Native.Nat.{ℕ, zero, suc, ◌+◌, ◌-◌, ◌≤◌, min}
use native.Mathlib.Nat.{suc-add}
use native.Mathlib.Omega.{arith}
use lib.ListN.{length, take, drop, replicate, length-replicate, replicate-append-replicate}
use lib.Seq.{take_at, take-nil, drop-nil}

-- no more can be taken than there are
most : (l : List ℕ) (n k : ℕ) → k ≡ min n (length l) → take k l ≡ take n l
most [] n k e = take-nil k ∙ sym (take-nil n)
most (x ∷ xs) zero k e = let z : k ≡ 0 = omega arith in ap (λ (j : ℕ). take j (x ∷ xs)) z
most (x ∷ xs) (suc n) k e =
    let g : k ≡ suc (k - 1) = omega arith in
    ap (λ (j : ℕ). take j (x ∷ xs)) g ∙ ap (λ (t : List ℕ). x ∷ t) (most xs n (k - 1) (omega arith))

-- one less
less : (k a b c : ℕ) → a ≡ suc b → k ≡ min a (suc c) → k - 1 ≡ min b c
less k a b c s e = omega arith

-- a part whose ends lie no further than the list's end
clipped : (l : List ℕ) (at n from end : ℕ) → from ≡ min at (length l) → end ≡ min (at + n) (length l)
    → take (end - from) (drop from l) ≡ take n (drop at l)
clipped [] at n from end e f = rw (drop-nil from, drop-nil at, take-nil (end - from), take-nil n) refl
clipped (x ∷ xs) zero n from end e f =
    let z : from ≡ 0 = omega arith in
    ap (λ (j : ℕ). take (end - j) (drop j (x ∷ xs))) z ∙ most (x ∷ xs) n (end - 0) (omega arith)
clipped (x ∷ xs) (suc at) n from end e f =
    let g : from ≡ suc (from - 1) = omega arith in
    let k : end - suc (from - 1) ≡ end - 1 - (from - 1) = omega arith in
    ap (λ (j : ℕ). take (end - j) (drop j (x ∷ xs))) g
    ∙ ap (λ (j : ℕ). take j (drop (from - 1) xs)) k
    ∙ clipped xs at n (from - 1) (end - 1) (less from (suc at) at (length xs) refl e) (less end (suc at + n) (at + n) (length xs) (suc-add at n) f)

-- such a part, copied to the front of a padding, is as many bytes as there are from the place on, and what is left of the padding
pub laid : (l pad id : List ℕ) (at n from end : ℕ) → from ≡ min at (length l) → end ≡ min (at + n) (length l)
    → id ≡ take (end - from) (drop from l) ++ drop (length (take (end - from) (drop from l))) pad
    → id ≡ take n (drop at l) ++ drop (length (take n (drop at l))) pad
laid l pad id at n from end e f g =
    g
    ∙ ap (λ (s : List ℕ). s ++ drop (length s) pad) (clipped l at n from end e f)

-- the same as the front of the list with the padding behind it, which may be longer
padded_by : (s : List ℕ) (n m v : ℕ) → n ≤ m → take n s ++ drop (length (take n s)) (replicate n v) ≡ take n (s ++ replicate m v)
padded_by s zero m v h = refl
padded_by [] (suc n) m v h =
    let e : suc n + (m - suc n) ≡ m = omega arith in
    sym
    (ap (λ (k : ℕ). take (suc n) (replicate k v)) (sym e)
    ∙ ap (take (suc n)) (sym (replicate-append-replicate (suc n) (m - suc n) v))
    ∙ take_at (replicate (suc n) v) (replicate (m - suc n) v) (suc n) (length-replicate (suc n) v))
padded_by (x ∷ xs) (suc n) m v h = ap (λ (t : List ℕ). x ∷ t) (padded_by xs n m v (omega arith))

pub padded : (s : List ℕ) (n v : ℕ) → take n s ++ drop (length (take n s)) (replicate n v) ≡ take n (s ++ replicate n v)
padded s n v = padded_by s n n v (omega arith)
