use mathlib.Core.Bool.{Bool}
use mathlib.Core.Path.{◌≡◌}
use Prim.Native.Nat.{◌*◌, ◌≤◌}
use lib.ListN.{drop}
use Rattle.profile.specs.declared.Area.{Area}
use Rattle.profile.specs.Places.{first_from}
use Rattle.profile.proofs.first_where.Given as goal

abbrev pub invariant-loop-area : goal.invariant-loop-area
invariant-loop-area g l =
    record {
      room : l.base ≤ 4294967296 * l.area-index;
      left : (t : Area → Bool) → ((a : Area) (b : Bool) → goal.F-post g l.test a b → b ≡ t a)
          → first_from t 0 l.area-items ≡ first_from t l.base (drop l.area-index l.area-items);
    }
