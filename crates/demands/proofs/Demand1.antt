-- Demand 1, proved. Assumes nothing.
use Rattle.demands.specs.Demand1.{Demand1}
use Rattle.demands.proofs.Rows.{by_rows, start_refusal_lem, start_keeps, feed_refusal_lem, feed_unfed, refusal_once}
use Rattle.demands.proofs.Lines.{answered_exactly, silent_exactly}
use Rattle.demands.proofs.Sessions.{calls_got}

pub demand_1 : Demand1
demand_1 =
    record {
      start = λ p image r s. by_rows _ (start_refusal_lem s);
      start_refused = λ p image r s. start_keeps s;
      reset = λ p image st r s. by_rows _ (start_refusal_lem s);
      reset_refused = λ p image st r s. start_keeps s;
      feed = λ p st input before after r f. by_rows _ (feed_refusal_lem f);
      feed_refused = λ p st input before after r f. feed_unfed f;
      one_number = refusal_once;
      answered = answered_exactly;
      silent = silent_exactly;
      got = calls_got;
    }
