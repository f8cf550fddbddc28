-- `record_driver::drive` meets its contract. A refused start or first delivery leaves all as it was; otherwise the script is driven. Assumes nothing.
use mathlib.Core.Bool.{not}
use mathlib.Core.Path.{ap}
use Rattle.record_driver.proofs.Driving.{unstarted, unfed, begun_ready, driven}
use Rattle.record_driver.proofs.drive.Goals as goal

pub returns-then-not-is_accepted : goal.returns-then-not-is_accepted
returns-then-not-is_accepted c =
    unstarted _ _ c.start-begun.ensures.is c.is_accepted.ensures _ (ap not c.if-not-is_accepted.true) c.refused.ensures

pub returns-then-not-is_accepted-2 : goal.returns-then-not-is_accepted-2
returns-then-not-is_accepted-2 c =
    unfed _ _
    c.start-begun.ensures.is
    c.is_accepted.ensures
    (ap not c.if-not-is_accepted.false) _ _
    c.feed-first.ensures c.is_accepted-2.ensures _ (ap not c.if-not-is_accepted-2.true) c.refused-then-not-is_accepted-2.ensures

pub run-requires : goal.run-requires
run-requires c =
    begun_ready _ _
    c.start-begun.ensures.is
    c.is_accepted.ensures
    (ap not c.if-not-is_accepted.false) _ _
    c.feed-first.ensures
    c.is_accepted-2.ensures (ap not c.if-not-is_accepted-2.false)

pub returns : goal.returns
returns c =
    driven _ _
    c.start-begun.ensures.is
    c.is_accepted.ensures
    (ap not c.if-not-is_accepted.false)
    _ _
    c.feed-first.ensures
    c.is_accepted-2.ensures
    (ap not c.if-not-is_accepted-2.false)
    c.run.ensures
