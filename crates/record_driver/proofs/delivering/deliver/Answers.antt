-- `record_driver::delivering::deliver` meets its contract. The loop keeps that all bytes give what the rest gives from the machine reached. Assumes nothing.
use borrow.Author.Rules.{rules}
use Rattle.record_driver.proofs.Deliveries.{stays, fewer, hearing_on, heard_all}
use Rattle.record_driver.proofs.delivering.deliver.Goals as goal

pub slice_bounds-rest-count : goal.slice_bounds-rest-count
slice_bounds-rest-count c = stays c.loop-rest.invariant _ _ (search rules) c.feed-fed.ensures

pub slice_bounds-rest-start : goal.slice_bounds-rest-start
slice_bounds-rest-start c = stays c.loop-rest.invariant _ _ (search rules) c.feed-fed.ensures

pub loop-rest-smaller : goal.loop-rest-smaller
loop-rest-smaller c = fewer c.loop-rest.invariant _ _ (search rules) c.feed-fed.ensures

pub loop-rest-preserved : goal.loop-rest-preserved
loop-rest-preserved c =
    let feed = c.feed-fed in
    hearing_on c.loop-rest.invariant _ _ (search rules) feed.ensures feed.auto.image feed.auto.receive feed.auto.reply

pub returns : goal.returns
returns c = heard_all c.loop-rest.invariant (search rules)
