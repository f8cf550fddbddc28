-- The demands for callers in C: the same calls on bytes, with numbers for answers.
use Rattle.std.specs.Prelude.{List, ◌↔◌, ◌≡◌, ℕ, ◌<◌, length, Some, Ok, Err}
use Rattle.verdict.specs.Check.{Check, NoneApplies, IsFirst}
use Rattle.profile.specs.Areas.{areas_of}
use Rattle.profile_bytes.specs.Profile.{profile_in}
use Rattle.state.specs.declared.State.{State}
use Rattle.state.specs.State.{fresh_state, zero_state}
use Rattle.state_bytes.specs.State.{state_in, state_bytes, state_over}
use Rattle.recording.specs.declared.Direction.{Direction}
use Rattle.recording.specs.declared.Fault.{Fault}
use Rattle.recording.specs.declared.Found.TheVariants.{Is, Refused}
use Rattle.recording.specs.Format.{direction_number, fault_number}
use Rattle.recording.specs.Recording.{found_at, end_number, records_of, extent_of, ended_number}
use Rattle.record_writer.specs.Writing.{Wrote}
use Rattle.record_exchange.specs.Line.{exchanges_of}
use Rattle.record_replay.specs.Replay.{replay}
use Rattle.device_calls.specs.declared.Row.{Row}
use Rattle.device_calls.specs.Calls.{buffers, row_number, start_rows, feed_rows}
use Rattle.interface.specs.Calls.{LentBytes, starting_rows, feeding_rows}
use Rattle.interface.specs.Post.{Numbers, StartedBytes, ResetBytes, delivery_of, RanBytes, UnfedBytes, FeedsBytes}
use Rattle.interface_replay.specs.Post.{Replayed}
use Rattle.interface_record.specs.Post.{ReadsBytes, WritesBytes}

-- a number is 0 exactly when no row applies, and a row's exactly when that row is the first that applies
pub record NumberedBy (rows : List (Check Row)) (n : ℕ) : Type 0 where
  pub accepted : (n ≡ 0) ↔ NoneApplies rows
  pub refused : (row : Row) → (n ≡ row_number row) ↔ IsFirst rows row

pub record Outside : Type 0 where
  -- starting writes the fresh state, or refused the zero state, where there is room for a state
  pub start : (profile image before after : List ℕ) (r : ℕ) → StartedBytes profile (length image) before after r
      → NumberedBy (starting_rows profile (length image) (length before)) r
  pub start_accepted : (profile image before after : List ℕ) (r : ℕ) → StartedBytes profile (length image) before after r → r ≡ 0
      → after ≡ state_over (fresh_state (profile_in profile)) before
  pub start_refused : (profile image before after : List ℕ) (r : ℕ) → StartedBytes profile (length image) before after r → (r ≡ 0 → ⊥)
      → after ≡ state_over zero_state before
  -- resetting writes the fresh state, or refused nothing
  pub reset : (profile image before after : List ℕ) (r : ℕ) → ResetBytes profile (length image) before after r
      → NumberedBy (starting_rows profile (length image) (length before)) r
  pub reset_accepted : (profile image before after : List ℕ) (r : ℕ) → ResetBytes profile (length image) before after r → r ≡ 0
      → after ≡ state_bytes (fresh_state (profile_in profile))
  pub reset_refused : (profile image before after : List ℕ) (r : ℕ) → ResetBytes profile (length image) before after r → (r ≡ 0 → ⊥) → after ≡ before
  -- feeding leaves what is defined, or refused two zeros and every byte as it was
  pub feed : (profile input : List ℕ) (before after : LentBytes) (r : Numbers) → FeedsBytes profile input before after r
      → NumberedBy (feeding_rows profile before) r.number
  pub feed_accepted : (profile input : List ℕ) (before after : LentBytes) (r : Numbers) → FeedsBytes profile input before after r → r.number ≡ 0
      → RanBytes (delivery_of profile before input) input before after r
  pub feed_refused : (profile input : List ℕ) (before after : LentBytes) (r : Numbers) → FeedsBytes profile input before after r
      → (row : Row) → r.number ≡ row_number row → UnfedBytes row before after r
  -- where the bytes are a state, its rows are those of the device
  pub same_rows : (profile : List ℕ) (l : LentBytes) (st : State) → state_in l.state ≡ Some st
      → feeding_rows profile l ≡ feed_rows (profile_in profile) st (buffers l.image l.receive l.reply)
  -- replaying leaves the replay of the recording's exchanges, or refused nothing
  pub replays : (profile recording before after : List ℕ) (r read ended : ℕ) → Replayed profile recording before after r read ended
      → NumberedBy (start_rows (profile_in profile) (length before)) r
  pub replay_accepted : (profile recording before after : List ℕ) (r read ended : ℕ) → Replayed profile recording before after r read ended → r ≡ 0
      → (after ≡ replay (areas_of (profile_in profile)) before (exchanges_of (records_of recording)))
      × (read ≡ (extent_of recording).count) × (ended ≡ ended_number (extent_of recording).ended)
  pub replay_refused : (profile recording before after : List ℕ) (r read ended : ℕ) → Replayed profile recording before after r read ended → (r ≡ 0 → ⊥)
      → (after ≡ before) × (read ≡ 0) × (ended ≡ 0)
  -- an accepted replay always tells how reading ended: whole, or by which fault; 0 is told by no other
  pub replay_ended : (profile recording before after : List ℕ) (r read ended : ℕ) → Replayed profile recording before after r read ended → (ended ≡ 0) ↔ (r ≡ 0 → ⊥)
  -- reading a record: its direction's number and its part, the end's, or a fault's; the place stays where there is no record
  pub read_record : (recording : List ℕ) (at r from to : ℕ) → ReadsBytes recording at r from to
      → (d : Direction) → (r ≡ direction_number d) ↔ (found_at recording at ≡ Is d (record { from = from; to = to }))
  pub read_end : (recording : List ℕ) (at r from to : ℕ) → ReadsBytes recording at r from to → (r ≡ end_number) ↔ (at ≡ length recording)
  pub read_fault : (recording : List ℕ) (at r from to : ℕ) → ReadsBytes recording at r from to
      → (fault : Fault) → (r ≡ fault_number fault) ↔ (found_at recording at ≡ Refused fault)
  pub read_stays : (recording : List ℕ) (at r from to : ℕ) → ReadsBytes recording at r from to
      → ((d : Direction) → r ≡ direction_number d → ⊥) → (from ≡ at) × (to ≡ at)
  -- writing a record: 7 with the place behind it, or a fault's number, and then the place stays
  pub write_record : (direction at : ℕ) (bytes before after : List ℕ) (r to : ℕ) → WritesBytes direction at bytes before after r to
      → (r ≡ 7) ↔ Wrote direction at bytes before after (Ok to)
  pub write_fault : (direction at : ℕ) (bytes before after : List ℕ) (r to : ℕ) → WritesBytes direction at bytes before after r to
      → (fault : Fault) → (r ≡ fault_number fault) ↔ Wrote direction at bytes before after (Err fault)
  pub write_stays : (direction at : ℕ) (bytes before after : List ℕ) (r to : ℕ) → WritesBytes direction at bytes before after r to
      → (fault : Fault) → r ≡ fault_number fault → to ≡ at
  -- neither ever answers 0
  pub read_answers : (recording : List ℕ) (at r from to : ℕ) → ReadsBytes recording at r from to → 0 < r
  pub write_answers : (direction at : ℕ) (bytes before after : List ℕ) (r to : ℕ) → WritesBytes direction at bytes before after r to → 0 < r
