-- What the blank check found, as one number.
use Rattle.std.specs.Prelude.{ℕ, Option, Some, None}

-- among n bytes: units are numbered from 0 and none is empty, so no unit has the number n
abbrev pub number_in : ℕ → Option ℕ → ℕ
number_in n None = n
number_in n (Some number) = number
