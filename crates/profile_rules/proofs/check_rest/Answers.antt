-- `profile_rules::check_rest` meets its contract. The table decides where it breaks a rule, and else the checks behind it. Assumes nothing.
use Rattle.std.proofs.lemmas.Result.{err_from_is_err_and}
use Rattle.std.proofs.Common.{sym, ap, ◌∙◌}
use Rattle.verdict.proofs.FirstFault.{granted_clear, refused_fault}
use Rattle.profile_rules.specs.declared.Tallies.{Tallies}
use Rattle.profile_rules.proofs.Judging.{breaks_table, tail_decides, tallies_are, judged_broken, judged_fine}
use Rattle.profile_rules.proofs.check_rest.Goals as goal

pub returns-in_err-counted : goal.returns-in_err-counted
returns-in_err-counted c =
    let p = err_from_is_err_and c.from_residual.result c.from_residual.ensures.1 in
    rw (p.1, p.2) (judged_broken _ _ _ (breaks_table c.args.profile _ c.survey.ensures _ c.in_err-counted.was))

pub check_tail-requires : goal.check_tail-requires
check_tail-requires c = tallies_are c.args.profile _ c.survey.ensures _ c.in_ok-counted.was

pub returns-in_err-check_tail : goal.returns-in_err-check_tail
returns-in_err-check_tail c =
    let p = err_from_is_err_and c.from_residual-in_err-check_tail.result c.from_residual-in_err-check_tail.ensures.1 in
    let late = refused_fault _ _ (sym c.check_tail.ensures ∙ c.in_err-check_tail.was) in
    rw (p.1, p.2) (judged_broken _ _ _ (tail_decides c.args.profile _ c.survey.ensures _ c.in_ok-counted.was ∙ late))

pub returns : goal.returns
returns c =
    let p = c.args.profile in
    let clear = granted_clear _ (sym c.check_tail.ensures ∙ c.in_ok-check_tail.was) in
    judged_fine _ _ _ (tail_decides p _ c.survey.ensures _ c.in_ok-counted.was ∙ clear)
    (ap (λ (t : Tallies). t.total) (tallies_are p _ c.survey.ensures _ c.in_ok-counted.was))
