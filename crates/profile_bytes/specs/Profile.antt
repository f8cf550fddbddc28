-- A profile as 156 bytes: NOA 1, TYP 1, BFV 2, SCI 4, RMB 4, low 4, high 4, then eight areas of 17: KOA 1, SAD 4, EAD 4, EAU 4, WAU 4.
use Rattle.std.specs.Prelude.{cond, List, [], ◌∷◌, ◌++◌, ℕ, zero, suc, ◌+◌, length, get_or, replicate, eqb}
use Rattle.numbers.specs.Bytes.{bytes_of}
use Rattle.profile.specs.declared.Area.{Area}
use Rattle.profile.specs.declared.Profile.{Profile}
use Rattle.profile.specs.Areas.{no_area}
use Rattle.packet_messages.specs.Messages.{area_message}
use Rattle.packet_fields.specs.Fields.{four_at, two_at}

abbrev pub profile_length : ℕ
profile_length = 156

abbrev pub area_length : ℕ
area_length = 17

-- the area in the bytes from a place on
abbrev pub area_at : List ℕ → ℕ → Area
area_at bs at =
    record { koa = get_or bs at 0; sad = four_at bs (at + 1); ead = four_at bs (at + 5); eau = four_at bs (at + 9); wau = four_at bs (at + 13) }

-- n areas, one behind the other
unfoldable pub areas_from : ℕ → ℕ → List ℕ → List Area
areas_from zero at bs = []
areas_from (suc n) at bs = area_at bs at ∷ areas_from n (at + area_length) bs

-- the fields of 156 bytes
unfoldable pub fields_in : List ℕ → Profile
fields_in bs =
    record {
      areas = areas_from 8 20 bs;
      noa = get_or bs 0 0;
      sci = four_at bs 4;
      rmb = four_at bs 8;
      typ = get_or bs 1 0;
      bfv = two_at bs 2;
      window = record { low = four_at bs 12; high = four_at bs 16 };
    }

-- what stands for no profile: without an area it is not acceptable
abbrev pub no_profile : Profile
no_profile =
    record { areas = replicate 8 no_area; noa = 0; sci = 0; rmb = 0; typ = 0; bfv = 0; window = record { low = 0; high = 0 } }

-- the profile in the bytes; bytes of another length are none
unfoldable pub profile_in : List ℕ → Profile
profile_in bs = cond (eqb (length bs) profile_length) (fields_in bs) no_profile

-- the other way round
unfoldable pub table_bytes : List Area → List ℕ
table_bytes [] = []
table_bytes (a ∷ more) = area_message a ++ table_bytes more

unfoldable pub profile_bytes : Profile → List ℕ
profile_bytes p =
    (p.noa ∷ p.typ ∷ [])
    ++ bytes_of 2 p.bfv
    ++ bytes_of 4 p.sci
    ++ bytes_of 4 p.rmb
    ++ bytes_of 4 p.window.low
    ++ bytes_of 4 p.window.high
    ++ table_bytes p.areas
