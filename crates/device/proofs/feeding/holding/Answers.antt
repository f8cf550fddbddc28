-- `device::feeding::holding` meets its contract. Assumes nothing.
use Rattle.device.proofs.feeding.holding.Goals as goal

pub returns : goal.returns
returns c = cc c.with_held.ensures
