-- The search for the first unit that holds a byte other than FFh: its number, none where all bytes are FFh. Units are counted from the front; a unit of
-- 0 counts as 1, which never decides in a write: device_steps, proofs/Defaults, `unit_there`.
use Rattle.std.specs.Prelude.{Bool, true, false, cond, List, [], ◌∷◌, ℕ, ◌+◌, ◌/◌, max, eqb, Option, Some, None}

-- among the bytes from place i on
unfoldable pub searched_from : ℕ → ℕ → List ℕ → Option ℕ
searched_from unit i [] = None
searched_from unit i (b ∷ bs) = cond (eqb b 0xFF) (searched_from unit (i + 1) bs) (Some (i / unit))

unfoldable pub searched : ℕ → List ℕ → Option ℕ
searched unit target = searched_from (max unit 1) 0 target

-- whether all bytes are FFh
unfoldable pub all_blank : List ℕ → Bool
all_blank [] = true
all_blank (b ∷ bs) = cond (eqb b 0xFF) (all_blank bs) false
