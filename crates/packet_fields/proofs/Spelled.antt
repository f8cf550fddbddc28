-- Entries of a list from a place on, and a list of known length entry by entry. Assumes nothing.
use mathlib.Core.Bool.{Bool, true, false}
use mathlib.Core.List.{List, [], ◌∷◌, ◌++◌}
use mathlib.Core.Path.{◌≡◌, refl, sym, ap, ◌∙◌}
use Prim.Native.Nat.{ℕ, zero, suc, ◌+◌, ◌≤◌, ◌<◌}
use native.Mathlib.Nat.{suc-add}
use native.Mathlib.Numerals.{add-one}
use native.Mathlib.Omega.{arith}
use lib.Dec.{leb}
use lib.ListN.{length, take, drop, get_or, replicate}
use lib.Seq.{drop-cons, drop-nil, take-nil, take_all}
use borrow.Author.Tests.{leb-true}
use Rattle.numbers.specs.Bytes.{number, field, number_at, value_at}
use Rattle.std.specs.Prelude.{Some, None}
use Rattle.packet_fields.specs.Fields.{bytes_from}

-- they are a part of the list
pub from_part : (n at : ℕ) (l : List ℕ) → at + n ≤ length l → bytes_from n at l ≡ take n (drop at l)
unfolding bytes_from
from_part zero at l h = refl
from_part (suc n) at l h =
    let i : at < length l = omega arith in
    rw (drop-cons l at 0 i, add-one at) (ap (λ (t : List ℕ). get_or l at 0 ∷ t) (from_part n (suc at) l (omega arith)))

pub spelled : (n : ℕ) (l : List ℕ) → length l ≡ n → bytes_from n 0 l ≡ l
spelled n l h = let k : length l ≤ n = omega arith in from_part n 0 l (omega arith) ∙ take_all n l k

-- a list that is one entry longer has them one place further
one_further : (n at x : ℕ) (l : List ℕ) → bytes_from n (suc at) (x ∷ l) ≡ bytes_from n at l
unfolding bytes_from
one_further zero at x l = refl
one_further (suc n) at x l = rw (suc-add at 1) (ap (λ (t : List ℕ). get_or l at 0 ∷ t) (one_further n (at + 1) x l))

-- what the list lacks is 0
none_there : (n at : ℕ) → bytes_from n at [] ≡ replicate n 0
unfolding bytes_from
none_there zero at = refl
none_there (suc n) at = ap (λ (t : List ℕ). 0 ∷ t) (none_there n (at + 1))

pub from_there : (n at : ℕ) (l : List ℕ) → bytes_from n at l ≡ take n (drop at l) ++ drop (length (take n (drop at l))) (replicate n 0)
unfolding bytes_from
from_there n at [] = rw (drop-nil at, take-nil n) (none_there n at)
from_there zero zero (x ∷ l) = refl
from_there (suc n) zero (x ∷ l) = ap (λ (t : List ℕ). x ∷ t) (one_further n 0 x l ∙ from_there n 0 l)
from_there n (suc at) (x ∷ l) = one_further n at x l ∙ from_there n at l

-- two bytes make a number of two bytes
pub two_small : (s : List ℕ) (at n : ℕ) → ((i : ℕ) → get_or s i 0 < 256) → Some n ≡ number_at 2 s at → n < 65536
unfolding value_at number bytes_from
two_small s at n byte e = by (leb (at + 2) (length s)) refl
  where
    by : (t : Bool) → leb (at + 2) (length s) ≡ t → n < 65536
    by true h =
        let r : at + 2 ≤ length s = leb-true (at + 2) (length s) h in
        let p : take 2 (drop at s) ≡ bytes_from 2 at s = sym (from_part 2 at s r) in
        let f : Some n ≡ Some (number (field 2 at s)) = rw h at e in
        let k : n ≡ number (field 2 at s) = cc in
        let j : n ≡ number (bytes_from 2 at s) = k ∙ ap number p in
        omega (arith, byte at, byte (at + 1))
    by false h =
        let f : Some n ≡ None = rw h at e in
        let z : ◌≡◌ {A = ℕ} 0 1 = cc in
        omega arith
