-- The areas of a profile: NOA of the table's eight entries, the others ignored.
use Rattle.std.specs.Prelude.{Bool, ◌&&◌, List, [], ◌∷◌, ℕ, zero, suc, ◌+◌, ◌-◌, min, get_or, leb}
use Rattle.profile.specs.declared.Area.{Area}
use Rattle.profile.specs.declared.Profile.{Profile}

-- what stands at no entry of a table; it never decides: device_steps, proofs/Defaults, `all_areas` and `area_there`
abbrev pub no_area : Area
no_area = record { koa = 0; sad = 0; ead = 0; eau = 0; wau = 0 }

-- n entries of a table from entry i on
unfoldable pub entries : ℕ → ℕ → List Area → List Area
entries i zero table = []
entries i (suc n) table = get_or table i no_area ∷ entries (i + 1) n table

abbrev pub areas_of : Profile → List Area
areas_of p = entries 0 (min p.noa 8) p.areas

-- EAD is inclusive
abbrev pub size_of : Area → ℕ
size_of a = a.ead + 1 - a.sad

-- a number of each area, added up
unfoldable pub tally : (Area → ℕ) → List Area → ℕ
tally f [] = 0
tally f (a ∷ more) = f a + tally f more

-- the image's length
abbrev pub total_of : List Area → ℕ
total_of areas = tally size_of areas

unfoldable pub inside : Area → ℕ → Bool
inside a x = leb a.sad x && leb x a.ead
