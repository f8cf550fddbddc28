-- `packet::sum` meets its contract. Assumes nothing.
use Rattle.std.proofs.Common.{refl, ◌∙◌, ◌+◌, ◌%◌, rules, tests}
use Rattle.std.proofs.lemmas.List.{take_all, length-drop}
use Rattle.std.proofs.lemmas.Iterator.{YieldsList-from_slice}
use Rattle.std.proofs.lemmas.Iterator.Consumers.{fold_from_yields_List}
use Rattle.packet.proofs.Laws.{sum_all, summed}
use Rattle.packet.proofs.sum.Goals as goal

pub returns : goal.returns
returns c =
    summed {some = c.iter.result.rest.now}
    (fold_from_yields_List _ (λ t b. (t + b) % 256) 0 _ c.fold.ensures.ran (YieldsList-from_slice _ refl) (λ t b r f k. search (rules, tests)) ∙ sum_all _)
    (search (rules, tests, take_all, length-drop))
