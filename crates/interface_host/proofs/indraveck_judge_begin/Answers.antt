-- `interface_host::indraveck_judge_begin` meets its contract. The request is told first, then the length; the judge written is a fresh one.
-- Assumes nothing.
use Rattle.interface_host.proofs.Outcome.{unasked_begins, unfit_begins, asked_begins}
use Rattle.interface_host.proofs.indraveck_judge_begin.Goals as goal

pub returns-in_default : goal.returns-in_default
returns-in_default c =
    let a = c.args in
    unasked_begins a.request a.first a.second c.request_of.ensures c.in_default.is a.judge.now

pub returns-then-judge-ne-JUDGE_LENGTH : goal.returns-then-judge-ne-JUDGE_LENGTH
returns-then-judge-ne-JUDGE_LENGTH c =
    let a = c.args in
    unfit_begins a.request a.first a.second c.request_of.ensures c.in-Some.is
    a.judge.now c.if-judge-ne-JUDGE_LENGTH.true

pub returns : goal.returns
returns c =
    let a = c.args in
    asked_begins a.request a.first a.second c.request_of.ensures c.in-Some.is
    c.if-judge-ne-JUDGE_LENGTH.false c.begin.ensures c.put_judge.ensures
