-- The effects on the flash, by address: device and replay share them, and nothing else changes a byte.
use Rattle.std.specs.Prelude.{Bool, ◌&&◌, cond, List, [], ◌∷◌, ◌++◌, ℕ, ◌+◌, ◌-◌, min, length, take, drop, get_or, replicate, leb, ltb, Option, Some, None}
use Rattle.profile.specs.declared.Area.{Area}
use Rattle.profile.specs.Areas.{size_of}
use Rattle.profile.specs.declared.Spot.{Spot}
use Rattle.profile.specs.Places.{place_of, offset_in}

-- an effect: what becomes of the byte b at address x
abbrev pub Effect : Type 0
Effect = ℕ → ℕ → ℕ

-- an effect on bytes that stand at the addresses from x on
unfoldable pub along : Effect → ℕ → List ℕ → List ℕ
along f x [] = []
along f x (b ∷ bs) = f x b ∷ along f (x + 1) bs

-- an effect on the image, the areas' bytes joined in table order; no address that a granted request changes lies outside them: device_steps,
-- proofs/Defaults, `target_placed` and `erase_placed`
unfoldable pub changed : Effect → List Area → List ℕ → List ℕ
changed f [] image = image
changed f (a ∷ more) image = along f a.sad (take (size_of a) image) ++ changed f more (drop (size_of a) image)

-- the addresses from s up to, not including, e
abbrev pub between : ℕ → ℕ → ℕ → Bool
between s e x = leb s x && ltb x e

-- the bytes vs stored from address s on; the FFh never decides: proofs/Writes, `stored_there`
unfoldable pub storing : ℕ → List ℕ → Effect
storing s vs x b = cond (between s (s + length vs) x) (get_or vs (x - s) 0xFF) b

-- the addresses s to e, both inclusive, erased
unfoldable pub erasing : ℕ → ℕ → Effect
erasing s e x b = cond (between s (e + 1) x) 0xFF b

unfoldable pub stored : List Area → ℕ → List ℕ → List ℕ → List ℕ
stored areas s vs image = changed (storing s vs) areas image

unfoldable pub erased : List Area → ℕ → ℕ → List ℕ → List ℕ
erased areas s e image = changed (erasing s e) areas image

-- total erase
unfoldable pub blanked : List ℕ → List ℕ
blanked image = replicate (length image) 0xFF

-- up to n bytes from address x on, as far as the image goes; on an accepted call always n: device_steps, proofs/Defaults, `read_whole`, `first_whole`
-- and `target_whole`
unfoldable pub fetched_at : Option Spot → ℕ → ℕ → List ℕ → List ℕ
fetched_at None x n image = []
fetched_at (Some spot) x n image = take n (drop (offset_in spot x) image)

unfoldable pub fetched : List Area → ℕ → ℕ → List ℕ → List ℕ
fetched areas x n image = fetched_at (place_of areas x) x n image

-- where in the image those bytes start: never beyond its end, and 0 where no area has the address
unfoldable pub fetch_start_at : Option Spot → ℕ → List ℕ → ℕ
fetch_start_at None x image = 0
fetch_start_at (Some spot) x image = min (offset_in spot x) (length image)

unfoldable pub fetch_start : List Area → ℕ → List ℕ → ℕ
fetch_start areas x image = fetch_start_at (place_of areas x) x image
