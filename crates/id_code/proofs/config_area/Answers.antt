-- `id_code::config_area` meets its contract. The search by the test is that for the config area. Assumes nothing.
use mathlib.Core.Path.{◌∙◌}
use lib.Dec.{eqb}
use borrow.Author.Rules.{rules}
use Rattle.profile.specs.Areas.{areas_of}
use Rattle.id_code.proofs.Search.{config_first}
use Rattle.id_code.proofs.config_area.Goals as goal

pub returns : goal.returns
returns c =
    let found = c.first_where.ensures in
    record {
      is = found.is (λ k. eqb k.koa 2) (λ k b h. search rules) ∙ config_first 0 (areas_of c.args.profile.now);
      bound = found.bound;
    }
