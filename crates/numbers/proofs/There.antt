-- What a list has is the same whatever stands for what it lacks: an entry, a field, the number in a field. Assumes nothing.
use mathlib.Core.List.{List, [], ◌∷◌}
use mathlib.Core.Path.{◌≡◌, refl}
use Prim.Native.Nat.{ℕ, zero, suc, ◌+◌, ◌≤◌, ◌<◌}
use native.Mathlib.Omega.{arith}
use lib.ListN.{length, drop, get_or, length-drop}
use lib.Seq.{length-take-le}
use borrow.Author.Tests.{le-leb}
use Rattle.std.specs.Prelude.{Some}
use Rattle.numbers.specs.Bytes.{number, field, value_at, number_at}

pub entry_there : {A : Type 0} (l : List A) (i : ℕ) (d e : A) → i < length l → get_or l i d ≡ get_or l i e
entry_there [] i d e h = absurd (omega arith)
entry_there (x ∷ l) zero d e h = refl
entry_there (x ∷ l) (suc i) d e h = entry_there l i d e (omega arith)

-- a field that ends inside the list
module _ (width at : ℕ) (s : List ℕ) (h : at + width ≤ length s) where
  -- has all its bytes
  pub field_there : length (field width at s) ≡ width
  field_there =
      let k : width ≤ length (drop at s) = rw length-drop (omega arith) in
      length-take-le width (drop at s) k

  -- and is not cut short
  pub number_there : number_at width s at ≡ Some (number (field width at s))
  unfolding value_at
  number_there = rw (le-leb (at + width) (length s) h) refl
