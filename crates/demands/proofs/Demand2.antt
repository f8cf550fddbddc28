-- Demand 2, proved. Assumes nothing.
use Rattle.flash.specs.Effects.{storing, erasing, stored, erased}
use Rattle.flash.proofs.ByAddress.{changed_at, blanked_at}
use Rattle.device_steps.proofs.Decided.{step_complete, step_early}
use Rattle.demands.specs.Demand2.{Demand2}
use Rattle.demands.proofs.Rows.{feed_ran}
use Rattle.demands.proofs.Once.{feeds_some, feeds_once}
use Rattle.demands.proofs.Stopping.{feed_stops, quiet_byte, waking_byte, command_goes, write_goes, next_goes}

pub demand_2 : Demand2
unfolding stored erased
demand_2 =
    record {
      leaves = λ p st input before after r f. feed_ran f;
      some = feeds_some;
      once = feeds_once;
      consumed = feed_stops;
      complete = step_complete;
      early = step_early;
      quiet = quiet_byte;
      waking = waking_byte;
      command = command_goes;
      write = write_goes;
      next = next_goes;
      erases = λ areas image x spot placed inside s e. changed_at areas image x spot placed inside 0 (erasing s e);
      stores = λ areas image x spot placed inside s bytes. changed_at areas image x spot placed inside 0 (storing s bytes);
      blanks = λ image i h. blanked_at image i 0 h;
    }
