-- `record_replay::replay_exchange` meets its contract. What the exchange tells of is performed with the bytes of its request. Assumes nothing.
use Rattle.record_replay.specs.Replay.{entry_replay}
use Rattle.record_replay.proofs.replay_exchange.Goals as goal

pub returns : goal.returns
unfolding entry_replay
returns c = rw (← c.read_exchange-told.ensures, ← c.info.ensures.bytes, c.perform.ensures)
