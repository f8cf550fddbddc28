-- `profile::areas_in_use` meets its contract. The table has eight entries, so those in use are its first ones. Assumes nothing.
use mathlib.Core.Path.{sym, ap, ◌∙◌}
use native.Mathlib.Omega.{arith}
use lib.ListN.{take}
use Rattle.profile.proofs.Table.{areas_there}
use Rattle.profile.proofs.areas_in_use.Goals as goal

pub returns-clause-are : goal.returns-clause-are
returns-clause-are c =
    let p = c.args.profile.now in
    ap (λ n. take n p.areas) c.used.ensures.0 ∙ sym (areas_there p (omega arith))
