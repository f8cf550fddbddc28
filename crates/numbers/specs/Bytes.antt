-- Numbers go high byte first. Every definition is over the width, in bytes.
use Rattle.std.specs.Prelude.{Bool, cond, List, [], ◌∷◌, ◌≡◌, ℕ, zero, suc, ◌+◌, ◌*◌, ◌/◌, ◌%◌, ◌^◌, ◌<◌, length, take, drop, leb, Option, Some, None}
use Rattle.std.proofs.lemmas.List.Edits.{sets}

-- the number that bytes make
unfoldable pub number : List ℕ → ℕ
number [] = 0
number (b ∷ bs) = b * 256 ^ length bs + number bs

-- the bytes that a number makes
unfoldable pub bytes_of : ℕ → ℕ → List ℕ
bytes_of zero n = []
bytes_of (suc width) n = n / 256 ^ width % 256 ∷ bytes_of width n

-- a field of a list: the bytes from a place on
abbrev pub field : ℕ → ℕ → List ℕ → List ℕ
field width at s = take width (drop at s)

-- a number as a value of a type of numbers, and such a value as a number
abbrev pub itself : ℕ → ℕ
itself n = n

-- what `of` makes of the number in a field, where the list has the whole field
unfoldable pub value_at : {N : Type 0} → (ℕ → N) → ℕ → List ℕ → ℕ → Option N
value_at of width s at = cond (leb (at + width) (length s)) (Some (of (number (field width at s)))) None

-- the number in a field, where the list has the whole field
abbrev pub number_at : ℕ → List ℕ → ℕ → Option ℕ
number_at = value_at itself

-- a list with a number's bytes in a field, where the list has the whole field
unfoldable pub with_number : ℕ → ℕ → ℕ → List ℕ → List ℕ
with_number width n at l = cond (leb (at + width) (length l)) (sets l at (bytes_of width n)) l

-- a list whose numbers are bytes
unfoldable pub AllBytes : List ℕ → Type 0
AllBytes [] = Unit {0}
AllBytes (b ∷ bs) = (b < 256) × AllBytes bs

-- what writing a number leaves, and what it answers
pub record Put (width n at : ℕ) (before after : List ℕ) (written : Bool) : Type 0 where
  pub answers : written ≡ leb (at + width) (length before)
  pub leaves : after ≡ with_number width n at before
