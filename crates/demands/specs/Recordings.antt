-- The demands on recordings: a device that is driven over a script, and the replay of a recorded line.
use Rattle.std.specs.Prelude.{List, ◌≡◌, ℕ, length, Ok, Err}
use Rattle.profile.specs.declared.Profile.{Profile}
use Rattle.profile.specs.Areas.{areas_of}
use Rattle.profile_rules.specs.Rules.{Accepted as Acceptable}
use Rattle.state.specs.State.{fresh_state}
use Rattle.recording.specs.declared.Ended.TheVariants.{Whole}
use Rattle.recording.specs.declared.Extent.{Extent}
use Rattle.recording.specs.Format.{written, AllFormed}
use Rattle.recording.specs.Recording.{records_of, extent_of}
use Rattle.record_exchange.specs.Line.{exchanges_of, taped}
use Rattle.record_replay.specs.Replay.{replay}
use Rattle.record_replay.specs.Post.{Played}
use Rattle.device_calls.specs.declared.Row.{Row}
use Rattle.device_calls.specs.Calls.{Lent, feed_rows}
use Rattle.record_history.specs.History.{Call, calls_of}
use Rattle.record_driver.specs.declared.Driven.{Driven}
use Rattle.record_driver.specs.Post.{Undriven, Drives}
use Rattle.demands.specs.Demand1.{ByRows}
use Rattle.demands.specs.Demand3.{reached, left}

-- all of a recording was read
abbrev pub wholly : List ℕ → Extent
wholly recording = record { count = length recording; ended = Whole }

pub record OnRecordings : Type 0 where
  -- driving: by the rows of a feed with the fresh state; refused, it reads nothing and leaves every lent byte
  pub drive : (p : Profile) (script : List ℕ) (before after : Lent) (r : Driven) → Drives p script before after r
      → ByRows (feed_rows p (fresh_state p) before) r.refusal
  pub undriven : (p : Profile) (script : List ℕ) (before after : Lent) (r : Driven) → Drives p script before after r
      → (row : Row) → r.refusal ≡ Err row → Undriven row p before after r
  -- driven, the image is that of the device after the script's calls, and the starting image with the record of these calls replayed
  pub driven : (p : Profile) (script : List ℕ) (before after : Lent) (r : Driven) → Drives p script before after r → r.refusal ≡ Ok tt
      → (after.image ≡ (reached p before.image (calls_of (records_of script))).image)
      × (after.image ≡ replay (areas_of p) before.image (left p before.image (calls_of (records_of script))))
  -- a line's record, taped as a recording, can be written, and reads back whole
  pub taped_back : (p : Profile) → Acceptable p → (image : List ℕ) (calls : List Call)
      → (AllFormed (taped (left p image calls)))
      × (exchanges_of (records_of (written (taped (left p image calls)))) ≡ left p image calls)
      × (extent_of (written (taped (left p image calls))) ≡ wholly (written (taped (left p image calls))))
  -- and playing it on the starting image gives the flash
  pub played : (p : Profile) → Acceptable p → (image : List ℕ) (calls : List Call) (after : List ℕ) (r : Extent)
      → Played p (written (taped (left p image calls))) image after r
      → (after ≡ (reached p image calls).image) × (r ≡ wholly (written (taped (left p image calls))))
  -- driving and playing say how far they read and why no further
  pub read_driven : (p : Profile) (script : List ℕ) (before after : Lent) (r : Driven) → Drives p script before after r → r.refusal ≡ Ok tt
      → r.read ≡ extent_of script
  pub read_played : (p : Profile) (recording before after : List ℕ) (r : Extent) → Played p recording before after r → r ≡ extent_of recording
