-- Areas of which only the addresses are kept.
use Rattle.std.specs.Prelude.{List, map}
use Rattle.profile.specs.declared.Area.{Area}

-- no kind and no unit
abbrev pub bare : Area → Area
bare a = record { koa = 0; sad = a.sad; ead = a.ead; eau = 0; wau = 0 }

abbrev pub bared : List Area → List Area
bared areas = map bare areas
