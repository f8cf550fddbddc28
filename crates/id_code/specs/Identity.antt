-- The ID code: the first 16 config bytes, in sending order; sixteen FFh bytes mean that none is stored.
use Rattle.std.specs.Prelude.{Bool, ◌&&◌, ◌||◌, not, cond, List, [], ◌∷◌, ◌++◌, ◌≡◌, ℕ, ◌+◌, ◌%◌, take, drop, get_or, replicate, leb, eqb, Option, Some, None}
use Rattle.verdict.specs.declared.Reason.{Reason}
use Rattle.verdict.specs.declared.Reason.TheVariants.{Locked, OtherId}
use Rattle.verdict.specs.Check.{Check, ◌gives◌}
use Rattle.profile.specs.declared.Area.{Area}
use Rattle.profile.specs.Areas.{size_of}
use Rattle.profile.specs.Places.{PlacedBelow}
use Rattle.profile.specs.declared.Spot.{Spot}
use Rattle.numbers.specs.Same.{same}

-- the first config area; base is the place of the first area's first byte
unfoldable pub config_from : ℕ → List Area → Option Spot
config_from base [] = None
config_from base (a ∷ more) = cond (eqb a.koa 2) (Some (record { area = a; base = base })) (config_from (base + size_of a) more)

abbrev pub no_id : List ℕ
no_id = replicate 16 0xFF

-- FFh stands for what an image lacks; it never decides: device_steps, proofs/Defaults, `id_there`
unfoldable pub id_at : Option Spot → List ℕ → List ℕ
id_at None image = no_id
id_at (Some spot) image = take 16 (drop spot.base image ++ no_id)

unfoldable pub id_of : List Area → List ℕ → List ℕ
id_of areas image = id_at (config_from 0 areas) image

-- none is stored
unfoldable pub is_none : List ℕ → Bool
is_none id = same id no_id

-- bit 127 is the top bit of the first byte, bit 126 the one below; the 0 for no byte never decides: proofs/Codes, `first_there`
unfoldable pub bit127 : List ℕ → Bool
bit127 id = leb 128 (get_or id 0 0)

unfoldable pub bit126 : List ℕ → Bool
bit126 id = leb 64 (get_or id 0 0 % 128)

-- 41 4C 65 52 41 53 45 and nine FFh
abbrev pub erase_code : List ℕ
erase_code = 0x41 ∷ 0x4C ∷ 0x65 ∷ 0x52 ∷ 0x41 ∷ 0x53 ∷ 0x45 ∷ replicate 9 0xFF

-- the code erases everything where the latched bit 126 permits it
unfoldable pub total_erase : List ℕ → List ℕ → Bool
total_erase id code = same code erase_code && bit126 id

unfoldable pub id_checks : List ℕ → List ℕ → List (Check Reason)
id_checks id code = (not (bit127 id) gives Locked) ∷ (not (total_erase id code || same code id) gives OtherId) ∷ []

-- the config area that was found, and the bound of its place
pub record Configured (areas : List Area) (r : Option Spot) : Type 0 where
  pub is : r ≡ config_from 0 areas
  pub bound : PlacedBelow r
