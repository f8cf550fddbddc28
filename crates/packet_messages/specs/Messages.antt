-- What the signature and area replies hold behind RES: numbers of four bytes, BFV of two, the others single bytes.
use Rattle.std.specs.Prelude.{List, [], ◌∷◌, ◌++◌, ℕ}
use Rattle.numbers.specs.Bytes.{bytes_of}
use Rattle.profile.specs.declared.Area.{Area}
use Rattle.profile.specs.declared.Profile.{Profile}

-- KOA, SAD, EAD, EAU, WAU
unfoldable pub area_message : Area → List ℕ
area_message a = a.koa ∷ (bytes_of 4 a.sad ++ bytes_of 4 a.ead ++ bytes_of 4 a.eau ++ bytes_of 4 a.wau)

-- SCI, RMB, NOA, TYP, BFV
unfoldable pub signature_message : Profile → List ℕ
signature_message p = bytes_of 4 p.sci ++ bytes_of 4 p.rmb ++ (p.noa ∷ p.typ ∷ []) ++ bytes_of 2 p.bfv
