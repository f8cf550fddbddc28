-- Whether two lists of numbers are the same.
use Rattle.std.specs.Prelude.{Bool, List, ℕ}
use Rattle.std.specs.Str.{bytes_eq}

unfoldable pub same : List ℕ → List ℕ → Bool
same = bytes_eq
