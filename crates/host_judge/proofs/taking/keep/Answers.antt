-- `host_judge::taking::keep` meets its contract. What is kept has room among the seventeen, and is copied there. Assumes nothing.
use Rattle.std.proofs.Common.{◌≡◌, ℕ, ◌-◌, min, length, sym, refl, ap, ◌∙◌, arith, length-take-le, rules}
use Rattle.host_judge.proofs.Runs.{kept_copy, kept_room, copy_room}
use Rattle.host_judge.proofs.taking.keep.Goals as goal

pub slice_bounds-copy-end : goal.slice_bounds-copy-end
slice_bounds-copy-end c =
    let more = c.args.more.now in
    sym (length-take-le c.min-n.result more (omega (arith, c.min-n.ensures)))

pub slice_bounds-first-end : goal.slice_bounds-first-end
slice_bounds-first-end c =
    let a = c.args in
    let n : length a.reply.first ≡ 17 = search rules in
    let k = kept_room a.reply.count c.min-end.result _ c.min-n.result _
    c.requires c.if-at-end.true
    c.min-end.ensures c.min-n.ensures in
    omega (arith, k, n)

pub copy-requires : goal.copy-requires
copy-requires c =
    let a = c.args in
    let n : length a.reply.first ≡ 17 = search rules in
    let k = kept_room a.reply.count c.min-end.result _ c.min-n.result _
    c.requires c.if-at-end.true
    c.min-end.ensures c.min-n.ensures in
    copy_room a.reply.first a.more.now (a.reply.count - 4) c.min-n.result (omega (arith, k, n))

pub returns-then-at-end : goal.returns-then-at-end
returns-then-at-end c =
    let a = c.args in
    let n : length a.reply.first ≡ 17 = search rules in
    let l = c.min-end in
    let l2 = c.min-n in
    let end = l.ensures ∙ ap (λ (x : ℕ). min x 21) c.data_end.ensures.0 in
    let some = c.if-at-end.true in
    let behind = c.requires in
    let k = kept_room a.reply.count l.result _ l2.result _ behind some l.ensures l2.ensures in
    rw (← end)
    (kept_copy a.reply.first a.more.now c.copy.new.to (a.reply.count - 4) l2.result (l.result - a.reply.count)
    (omega (arith, k, n)) l2.ensures c.copy.ensures)

pub returns-else-at-end : goal.returns-else-at-end
returns-else-at-end c =
    let a = c.args in
    let l = c.min-end in
    let end = l.ensures ∙ ap (λ (x : ℕ). min x 21) c.data_end.ensures.0 in
    let z : l.result - a.reply.count ≡ 0 = omega (arith, c.if-at-end.false) in
    rw (← end, z) refl
