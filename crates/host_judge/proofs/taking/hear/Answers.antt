-- `host_judge::taking::hear` meets its contract. Behind each step, hearing the rest is hearing all. Assumes nothing.
use Rattle.std.proofs.Common.{◌<◌, sym, ap, ◌∙◌, arith}
use Rattle.std.proofs.lemmas.Grind.{common_steps}
use Rattle.packet.specs.declared.Kind.TheVariants.{Data as DataPacket}
use Rattle.packet.specs.Packet.{permitted}
use Rattle.host_judge.proofs.Runs.{none_heard, heard_to_verdict}
use Rattle.host_judge.proofs.Parts.{part_high, part_low, part_unfit, part_rest, part_ends, part_last}
use Rattle.host_judge.proofs.taking.hear.Goals as goal

pub returns-then-not-is_unanswered : goal.returns-then-not-is_unanswered
returns-then-not-is_unanswered c =
    let a = c.args in
    heard_to_verdict a.judge a.judge a.bytes.now 0 (none_heard a.judge a.bytes.now)
    (sym c.is_unanswered.ensures ∙ c.if-not-is_unanswered.true)

pub returns-then-not-is_permitted : goal.returns-then-not-is_permitted
returns-then-not-is_permitted c =
    let a = c.args in
    let u = sym c.is_unanswered.ensures ∙ c.if-not-is_unanswered.false in
    let first = c.hear_next-high in
    let second = c.hear_next-low in
    let high = part_high a.judge u a.bytes.now c.begin_part.result first.result c.begin_part.ensures first.ensures in
    let bad = ap (permitted DataPacket) (sym c.length.ensures.0) ∙ sym c.is_permitted.ensures ∙ c.if-not-is_permitted.true in
    let more : first.result.taken < second.result.taken = omega arith in
    rw (c.told.ensures, second.ensures)
    (part_unfit a.judge u a.bytes.now first.result high
    (rw second.ensures at more) (rw second.ensures at bad))

pub returns-then-bytes-taken : goal.returns-then-bytes-taken
returns-then-bytes-taken c =
    let a = c.args in
    let u = sym c.is_unanswered.ensures ∙ c.if-not-is_unanswered.false in
    let first = c.hear_next-high in
    let second = c.hear_next-low in
    let high = part_high a.judge u a.bytes.now c.begin_part.result first.result c.begin_part.ensures first.ensures in
    let low =
    part_low a.judge u a.bytes.now first.result second.result high second.ensures
    (grind (arith, common_steps)) in
    let run = c.hear_run-taken in
    let rest =
    part_rest a.judge u a.bytes.now second.result c.hear_next.result c.hear_next-status.result run.result low
    c.hear_next.ensures c.hear_next-status.ensures run.ensures in
    rw c.told-then-bytes-taken.ensures (part_ends a.judge u a.bytes.now _ run.result rest c.if-bytes-taken.true)

pub returns : goal.returns
returns c =
    let a = c.args in
    let u = sym c.is_unanswered.ensures ∙ c.if-not-is_unanswered.false in
    let first = c.hear_next-high in
    let second = c.hear_next-low in
    let high = part_high a.judge u a.bytes.now c.begin_part.result first.result c.begin_part.ensures first.ensures in
    let low =
    part_low a.judge u a.bytes.now first.result second.result high second.ensures
    (grind (arith, common_steps)) in
    let run = c.hear_run-taken in
    let rest =
    part_rest a.judge u a.bytes.now second.result c.hear_next.result c.hear_next-status.result run.result low
    c.hear_next.ensures c.hear_next-status.ensures run.ensures in
    rw (c.told-2.ensures, c.with_count.ensures, c.length-2.ensures.0, c.judge_last-said.ensures)
    (part_last a.judge u a.bytes.now run.result rest c.if-bytes-taken.false)
