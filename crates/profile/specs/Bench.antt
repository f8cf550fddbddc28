-- The bench profile of the protocol, and the area table of source 000.
use Rattle.std.specs.Prelude.{List, ◌∷◌, ℕ, replicate}
use Rattle.profile.specs.declared.Area.{Area}
use Rattle.profile.specs.declared.Profile.{Profile}
use Rattle.profile.specs.Areas.{no_area}

abbrev pub bench_user : Area
bench_user = record { koa = 0; sad = 0x00000000; ead = 0x0000FFFF; eau = 0x2000; wau = 0x80 }

abbrev pub bench_config : Area
bench_config = record { koa = 2; sad = 0x01000000; ead = 0x010000FF; eau = 0; wau = 0x10 }

-- the bench profile's numbers with a table of areas
abbrev pub on_bench : ℕ → List Area → Profile
on_bench noa areas =
    record {
      areas = areas;
      noa = noa;
      sci = 60000000;
      rmb = 4000000;
      typ = 1;
      bfv = 0x0100;
      window = record { low = 0; high = 0 };
    }

abbrev pub bench : Profile
bench = on_bench 2 (bench_user ∷ bench_config ∷ replicate 6 no_area)

-- source 000's areas
abbrev pub user000 : Area
user000 = record { koa = 0; sad = 0x00000000; ead = 0x0001FFFF; eau = 2048; wau = 8 }

abbrev pub data000 : Area
data000 = record { koa = 1; sad = 0x40100000; ead = 0x40100FFF; eau = 1024; wau = 1 }

abbrev pub config000 : Area
config000 = record { koa = 2; sad = 0x01010008; ead = 0x01010033; eau = 0; wau = 4 }
