-- `packet_messages::signature_message` meets its contract. The five fields are written one behind the other. Assumes nothing.
use Rattle.packet_messages.proofs.Laws.{signature_written}
use Rattle.packet_messages.proofs.signature_message.Goals as goal

pub returns : goal.returns
returns c =
    signature_written c.args.profile c.write.new.buffer c.write-2.new.buffer c.write-3.new.buffer
    c.write.ensures.leaves c.write-2.ensures.leaves c.write-3.ensures.leaves
