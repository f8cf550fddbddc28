-- `profile_rules::judge` meets its contract. The head decides where it breaks a rule, and else the rest. Assumes nothing.
use Rattle.std.proofs.lemmas.Result.{err_from_is_err_and}
use Rattle.std.specs.Prelude.{Option}
use Rattle.std.proofs.Common.{◌++◌, sym, ap, ◌∙◌}
use Rattle.profile.specs.Areas.{areas_of, total_of}
use Rattle.profile_rules.specs.declared.Rule.{Rule}
use Rattle.profile_rules.specs.Judged.{judged_as, judged_of}
use Rattle.profile_rules.specs.Rules.{head_checks, table_checks, tail_checks, profile_checks}
use Rattle.profile_rules.proofs.Judging.{judged_broken}
use Rattle.profile_rules.proofs.Laws.{goes_on, stops}
use Rattle.profile_rules.proofs.judge.Goals as goal

pub returns-in_err-check_head : goal.returns-in_err-check_head
unfolding judged_of profile_checks
returns-in_err-check_head c =
    let a = c.args.profile in
    let p = err_from_is_err_and c.from_residual.result c.from_residual.ensures.1 in
    rw (p.1, p.2) (judged_broken _ _ _ (stops (head_checks a) (table_checks 0 0 (areas_of a) ++ tail_checks a) _ (sym c.check_head.ensures ∙ c.in_err-check_head.was)))

pub returns : goal.returns
unfolding judged_of profile_checks
returns c =
    let p = c.args.profile in
    let later = goes_on (head_checks p) (table_checks 0 0 (areas_of p) ++ tail_checks p) (sym c.check_head.ensures ∙ c.in_ok-check_head.was) in
    c.check_rest.ensures ∙ sym (ap (λ (f : Option Rule). judged_as f (total_of (areas_of p))) later)
