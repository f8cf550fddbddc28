-- `device::feeding::add` meets its contract: a wake-up gains nothing, a packet what `gather` takes. Assumes nothing.
use Rattle.device.proofs.Added.{holds, added_none, added_some, holding_at}
use Rattle.device.proofs.feeding.add.Goals as goal

pub gather-requires : goal.gather-requires
gather-requires c = holds (holding_at c.requires c.awaits.ensures c.in-Packet.is)

pub returns-in-WakeUp : goal.returns-in-WakeUp
returns-in-WakeUp c = added_none c.awaits.ensures c.in-WakeUp.is

pub returns-in-Packet : goal.returns-in-Packet
returns-in-Packet c = added_some c.awaits.ensures c.in-Packet.is c.gather.ensures
