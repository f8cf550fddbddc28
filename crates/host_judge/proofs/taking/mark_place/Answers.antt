-- `host_judge::taking::mark_place` meets its contract. Assumes nothing.
use Rattle.std.proofs.Common.{◌∙◌, eqb, rules, arith, tests}
use Rattle.std.proofs.lemmas.Iterator.{YieldsList-from_slice}
use Rattle.std.proofs.lemmas.Iterator.Search.{position_from_yields_List}
use Rattle.host_judge.proofs.Parts.{mark_found, mark_within}
use Rattle.host_judge.proofs.taking.mark_place.Goals as goal

pub returns : goal.returns
returns c =
    let bytes = c.args.bytes.now in
    let e = position_from_yields_List (λ b. eqb b 0x81) _ _ c.position.result c.position.ensures.ran (YieldsList-from_slice bytes cc) (λ x b f k. search (rules, tests)) in
    let m = c.unwrap_or.ensures ∙ mark_found bytes c.position.result e in
    (m, omega (arith, m, mark_within bytes))
