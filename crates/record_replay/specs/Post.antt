-- What playing a recording leaves.
use Rattle.std.specs.Prelude.{List, ◌∷◌, ◌++◌, ◌≡◌, ℕ, ◌+◌, ◌≤◌, ◌<◌, length, Option, None, Some}
use Rattle.profile.specs.declared.Profile.{Profile}
use Rattle.profile.specs.Areas.{areas_of}
use Rattle.recording.specs.declared.Extent.{Extent}
use Rattle.recording.specs.Format.{Record, written, AllFormed}
use Rattle.recording.specs.Recording.{bytes_in, records_from, records_of, stop_from, extent_of}
use Rattle.record_exchange.specs.Line.{Entry, exchanges_from, exchanges_of, taped, Stray}
use Rattle.record_replay.specs.Replay.{Tape, replay_from, replay}
use Rattle.recording.specs.declared.Part.{Part}
use Rattle.record_replay.specs.declared.Head.{Head}

pub record Played (p : Profile) (recording before after : List ℕ) (r : Extent) : Type 0 where
  pub image : after ≡ replay (areas_of p) before (exchanges_of (records_of recording))
  pub read : r ≡ extent_of recording
  -- a recording that a line's own record makes gives the replay of that record
  pub own : (es : List Entry) → AllFormed (taped es) → recording ≡ written (taped es) → after ≡ replay (areas_of p) before es
  -- a record that is no half of a pair does nothing: without it the image is the same
  pub strays : (a b : List Record) (stray : Record) → Stray a stray b → records_of recording ≡ a ++ stray ∷ b
      → after ≡ replay (areas_of p) before (exchanges_of (a ++ b))

-- a landing place of at most n
abbrev pub LandsBelow : Option ℕ → ℕ → Type 0
LandsBelow None n = Unit {0}
LandsBelow (Some x) n = x ≤ n

-- what waits for an answer, as the definition has it
abbrev pub waiting_of : List ℕ → Option Part → Option (List ℕ)
waiting_of recording None = None
waiting_of recording (Some part) = Some (bytes_in part recording)

-- what playing on from a head gives
abbrev pub played_from : Profile → List ℕ → List ℕ → Head → Tape
played_from p recording image head =
    replay_from (areas_of p) (record { image = image; landing = head.landing }) (exchanges_from (waiting_of recording head.waiting) (records_from recording head.at))

-- a part that waits lies before the head; a landing place is at most the highest address and what was read since
abbrev pub WaitsBefore : Option Part → Option ℕ → ℕ → Type 0
WaitsBefore None landing at = LandsBelow landing (4294967295 + at)
WaitsBefore (Some part) landing at = (part.from ≤ part.to) × (part.to ≤ at) × LandsBelow landing (4294967295 + part.from)

pub record HeadIn (n : ℕ) (head : Head) : Type 0 where
  pub inside : head.at ≤ n
  pub waits : WaitsBefore head.waiting head.landing head.at

-- one record further: what is left to play and where reading stops are the same
pub record Advanced (p : Profile) (recording im₀ im : List ℕ) (head r : Head) : Type 0 where
  pub plays : played_from p recording im r ≡ played_from p recording im₀ head
  pub stops : stop_from recording r.at ≡ stop_from recording head.at
  pub stands : HeadIn (length recording) r
  pub further : head.at < r.at
