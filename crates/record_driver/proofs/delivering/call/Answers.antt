-- `record_driver::delivering::call` meets its contract. By the record's direction: a delivery, no call, or a reset that is accepted. Assumes nothing.
use Rattle.record_driver.proofs.Called.{stands_at, reset_stands}
use Rattle.record_history.specs.History.{machine_after, buffer_after, calls_of}
use mathlib.Core.Path.{refl}
use Rattle.record_driver.proofs.delivering.call.Goals as goal

pub returns-in-Host : goal.returns-in-Host
unfolding machine_after buffer_after calls_of
returns-in-Host c = rw c.in-Host.is c.deliver.ensures

pub returns-in-Device : goal.returns-in-Device
unfolding machine_after buffer_after calls_of
returns-in-Device c = rw c.in-Device.is (stands_at c.requires.0 refl refl)

pub returns-in-Reset : goal.returns-in-Reset
unfolding machine_after buffer_after calls_of
returns-in-Reset c = rw c.in-Reset.is (reset_stands c.requires.0 c.reset.ensures.is)
