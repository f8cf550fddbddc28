-- `interface::feed_state` meets its contract. What the device's feed left, with the state in its bytes. Assumes nothing.
use Rattle.device_calls.specs.Calls.{buffers}
use Rattle.interface.proofs.Written.{fed_bytes}
use Rattle.interface.proofs.feed_state.Goals as goal

pub returns : goal.returns
returns c =
    let number = c.number-number in
    let put = c.put in
    let a = c.args in
    let f = c.feed-fed in
    fed_bytes a.p a.st a.input.now (buffers a.image.now a.receive.now a.reply.now)
    (buffers f.new.image f.new.receive f.new.reply) f.result a.state.now put.new.state number.result
    c.requires
    number.ensures put.ensures f.ensures
