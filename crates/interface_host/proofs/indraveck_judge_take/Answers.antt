-- `interface_host::indraveck_judge_take` meets its contract. Bytes that are no judge stay; the rest is what taking answered. Assumes nothing.
use Rattle.interface_host.proofs.Outcome.{unjudged_takes, judge_takes}
use Rattle.interface_host.proofs.indraveck_judge_take.Goals as goal

pub returns-in_default : goal.returns-in_default
returns-in_default c =
    let a = c.args in
    unjudged_takes a.bytes.now a.judge.now c.head_in.ensures c.in_default.is

pub returns : goal.returns
returns c =
    let a = c.args in
    judge_takes a.bytes.now a.judge.now c.head_in.ensures c.in-Some.is c.judge_in-before.ensures
    c.take-got.ensures c.put_judge.ensures c.from.ensures.0
