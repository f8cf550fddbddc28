-- The demands on recordings, proved. Assumes nothing.
use Rattle.record_exchange.proofs.Tapes.{tape_back, tape_whole}
use Rattle.record_history.proofs.Taped.{own_formed, own_recording}
use Rattle.demands.specs.Recordings.{OnRecordings}
use Rattle.demands.proofs.Rows.{by_rows, drive_refusal, drive_ran, drive_undriven}

pub on_recordings : OnRecordings
on_recordings =
    record {
      drive = λ p script before after r f. by_rows _ (drive_refusal p script before after r f);
      undriven = drive_undriven;
      driven = λ p script before after r f e.
          let d = drive_ran p script before after r f e in
          (d.machine, d.image);
      taped_back = λ p acceptable image calls.
          let formed = own_formed p acceptable image calls in
          (formed, tape_back _ formed, tape_whole _ formed);
      played = own_recording;
      read_driven = λ p script before after r f e. (drive_ran p script before after r f e).read;
      read_played = λ p recording before after r played. played.read;
    }
