-- What a replay from outside leaves, by name.
use Rattle.std.specs.Prelude.{cond, List, ◌∷◌, ◌++◌, ◌≡◌, ℕ, length, Ok}
use Rattle.profile.specs.Areas.{areas_of}
use Rattle.recording.specs.declared.Extent.{Extent}
use Rattle.recording.specs.Format.{Record, written, AllFormed}
use Rattle.recording.specs.Recording.{records_of, extent_of, ended_number, unread}
use Rattle.record_exchange.specs.Line.{Entry, exchanges_of, taped, Stray}
use Rattle.record_replay.specs.Replay.{replay}
use Rattle.device_calls.specs.Calls.{number_of, is_accepted, start_refusal, Refusal}
use Rattle.profile_bytes.specs.Profile.{profile_in}

-- the image, and how much of the recording was read and why no more; a refused replay leaves the image and reads nothing
abbrev pub image_by : Refusal → List ℕ → List ℕ → List ℕ → List ℕ
image_by row profile recording before =
    cond (is_accepted row) (replay (areas_of (profile_in profile)) before (exchanges_of (records_of recording))) before

abbrev pub extent_by : Refusal → List ℕ → Extent
extent_by row recording = cond (is_accepted row) (extent_of recording) unread

pub record Replayed (profile recording before after : List ℕ) (r read ended : ℕ) : Type 0 where
  pub number : r ≡ number_of (start_refusal (profile_in profile) (length before))
  pub image : after ≡ image_by (start_refusal (profile_in profile) (length before)) profile recording before
  pub count : read ≡ (extent_by (start_refusal (profile_in profile) (length before)) recording).count
  pub why : ended ≡ ended_number (extent_by (start_refusal (profile_in profile) (length before)) recording).ended
  -- where it is accepted: a recording that a line's own record makes gives the replay of that record
  pub own : start_refusal (profile_in profile) (length before) ≡ Ok tt → (es : List Entry) → AllFormed (taped es) → recording ≡ written (taped es)
      → after ≡ replay (areas_of (profile_in profile)) before es
  -- and a record that is no half of a pair does nothing
  pub strays : start_refusal (profile_in profile) (length before) ≡ Ok tt → (a b : List Record) (stray : Record) → Stray a stray b
      → records_of recording ≡ a ++ stray ∷ b → after ≡ replay (areas_of (profile_in profile)) before (exchanges_of (a ++ b))
