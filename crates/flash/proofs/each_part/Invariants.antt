use Prim.Native.Nat.{◌*◌, ◌≤◌}
use Rattle.flash.specs.Effects.{Effect}
use Rattle.flash.specs.Meets.{Only, Does}
use Rattle.flash.proofs.Walk.{Walked}
use Rattle.flash.proofs.each_part.Given as goal

abbrev pub invariant-loop-area : goal.invariant-loop-area
invariant-loop-area g l =
    record {
      room : l.base ≤ 4294967296 * l.area-index;
      walked : (f : Effect) → Only f l.first l.behind → Does (λ part at after. goal.F-post g l.write part at tt after) f l.first l.behind
          → Walked f l.area-items l.initial.image l.image l.base l.area-index;
    }
