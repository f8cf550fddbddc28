-- `flash_blank::is_blank` meets its contract. Assumes nothing.
use Rattle.std.proofs.Common.{true, ◌∙◌, ◌&&◌, eqb, rules, tests}
use Rattle.std.proofs.lemmas.Iterator.{YieldsList-from_slice}
use Rattle.std.proofs.lemmas.Iterator.Consumers.{fold_from_yields_List}
use Rattle.flash_blank.proofs.Units.{blank_fold}
use Rattle.flash_blank.proofs.is_blank.Goals as goal

pub returns : goal.returns
returns c =
    let l = c.args.target.now in
    fold_from_yields_List _ (λ t b. t && eqb b 0xFF) true _ c.fold.ensures.ran (YieldsList-from_slice l cc) (λ t b r f k. search (rules, tests))
    ∙ blank_fold true l
