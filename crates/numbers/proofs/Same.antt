-- What comparing tells. Assumes nothing.
use mathlib.Core.Bool.{true}
use mathlib.Core.List.{List}
use mathlib.Core.Path.{◌≡◌, refl}
use Prim.Native.Nat.{ℕ}
use Rattle.std.proofs.lemmas.Slice.Eq.{bytes_eq-Decides}
use Rattle.numbers.specs.Same.{same}

-- lists that compare as the same are equal, and the other way round
pub same_eq : (xs ys : List ℕ) → same xs ys ≡ true → xs ≡ ys
unfolding same
same_eq xs ys = (bytes_eq-Decides xs ys).0

pub same_refl : (xs : List ℕ) → same xs xs ≡ true
unfolding same
same_refl xs = (bytes_eq-Decides xs xs).1 refl
