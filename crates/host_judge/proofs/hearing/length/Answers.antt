-- `host_judge::hearing::length` meets its contract. Two bytes make a number below 65,536. Assumes nothing.
use Rattle.std.proofs.Common.{[], ◌∷◌, refl, ◌∙◌, arith}
use Rattle.numbers.proofs.Laws.{number_two}
use Rattle.host_judge.proofs.hearing.length.Goals as goal

pub returns : goal.returns
returns c =
    let reply = c.args.reply in
    let read = c.from_be_bytes.ensures ∙ number_two (reply.high ∷ reply.low ∷ []) refl in
    (omega (arith, read), omega arith)
