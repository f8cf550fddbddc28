-- `answer::send` meets its contract. The data reply has room, so it stands at the buffer's front. Assumes nothing.
use mathlib.Core.List.{◌∷◌}
use native.Mathlib.Omega.{arith}
use Rattle.flash.specs.declared.Act.TheVariants.{Nothing}
use Rattle.answer.proofs.Sending.{is_sent, sent}
use Rattle.answer.proofs.send.Goals as goal

pub unwrap-count-requires : goal.unwrap-count-requires
unwrap-count-requires c =
    let a = c.args in
    is_sent (a.res ∷ a.bytes.now) a.reply.now _ _ (omega arith) (omega arith) c.requires.0 c.put_data.ensures

pub returns : goal.returns
returns c =
    let a = c.args in
    sent (a.res ∷ a.bytes.now) a.reply.now _ _ (omega arith) (omega arith) c.requires.0 c.put_data.ensures
    c.unwrap-count.result Nothing a.state c.unwrap-count.ensures
