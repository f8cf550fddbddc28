-- `record_exchange::answered_ok` meets its contract. The status that is put into seven bytes is the one that the definition compares with. Assumes nothing.
use Rattle.record_exchange.proofs.Answered.{status_alone}
use Rattle.record_exchange.specs.Exchange.{answered_ok}
use Rattle.record_exchange.proofs.answered_ok.Goals as goal

pub returns : goal.returns
unfolding answered_ok
returns c =
    let byte_at = c.byte_at in
    let put-status = c.put_status in
    rw (← byte_at.ensures, ← status_alone byte_at.result put-status.new.buffer put-status.result put-status.ensures) c.equal.ensures
