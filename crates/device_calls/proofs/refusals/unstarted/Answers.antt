-- `device_calls::refusals::unstarted` meets its contract. Each return is that of the first row that applies. Assumes nothing.
use Rattle.std.proofs.Common.{sym, ◌∙◌}
use Rattle.profile_rules.proofs.Judging.{broken_of, total_of_lem}
use Rattle.device_calls.proofs.Rows.{breaks_not, start_first, start_second, start_accepts}
use Rattle.device_calls.proofs.refusals.unstarted.Goals as goal

pub returns-in_default : goal.returns-in_default
returns-in_default c = let a = c.args in sym (start_first a.profile a.length (breaks_not a.profile _ (broken_of a.profile _ c.judge.ensures _ c.in_default.is)))

pub returns-then-length-total : goal.returns-then-length-total
returns-then-length-total c =
    let a = c.args in
    let j = total_of_lem a.profile _ c.judge.ensures _ c.in-Ok.is in
    sym (start_second a.profile a.length j.0 (λ e. c.if-length-total.true (e ∙ sym j.1)))

pub returns : goal.returns
returns c =
    let a = c.args in
    let j = total_of_lem a.profile _ c.judge.ensures _ c.in-Ok.is in
    sym (start_accepts a.profile a.length j.0 (c.if-length-total.false ∙ j.1))
