-- The line on disk, proved. Assumes nothing.
use Rattle.recording.proofs.Reading.{stops_over, whole_exactly, whole_ends}
use Rattle.recording.proofs.Exactly.{end_exactly, refused_exactly}
use Rattle.recording.proofs.Back.{read_part, records_formed, writes_back}
use Rattle.recording.proofs.Steady.{read_on, refused_on}
use Rattle.record_writer.proofs.ReadBack as writer
use Rattle.demands.specs.Disk.{OnDisk}

pub on_disk : OnDisk
on_disk =
    record {
      reads =
          record {
            one = λ s all at direction bytes. (writer.reads_entry s at direction bytes all, λ h. writer.entry_reads s at direction bytes h.0 h.1);
            only = read_part;
            end = end_exactly;
            refused = refused_exactly;
            steady_record = read_on;
            steady_fault = λ s more at fault no e. refused_on s more at fault no e;
          };
      writes =
          record {
            behind = writer.written_exactly;
            kept = λ direction at bytes before after r w n e.
                (writer.before_kept direction at bytes before after r w n e, writer.behind_kept direction at bytes before after r w n e);
            refused = writer.unwritten_exactly;
            unwritten = writer.refused_leaves;
            once = λ direction at bytes before after after' r r'. writer.wrote_once;
          };
      record_back = writer.written_reads;
      records_back = λ rs before to after all. (writer.all_read_back rs before to after all, writer.all_read_whole rs before to after all);
      records_written = writer.writes_up;
      bytes_back = writer.same_again;
      part_back = λ s all. (records_formed s, writes_back s all);
      same = writer.accepts_same;
      ends = λ s. stops_over s 0;
      whole = λ s. (whole_exactly s 0, whole_ends s 0);
    }
