-- `packet_messages::area_message` meets its contract. The five fields are written one behind the other. Assumes nothing.
use Rattle.packet_messages.proofs.Laws.{area_written}
use Rattle.packet_messages.proofs.area_message.Goals as goal

pub returns : goal.returns
returns c =
    let write-four = c.write in
    let write-four2 = c.write-2 in
    let write-four3 = c.write-3 in
    area_written c.args.area write-four.new.buffer
    write-four2.new.buffer write-four3.new.buffer c.write-4.new.buffer write-four.ensures.leaves write-four2.ensures.leaves
    write-four3.ensures.leaves c.write-4.ensures.leaves
