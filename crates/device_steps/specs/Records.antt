-- What a received byte brings to an end: a complete packet, or a length that is refused early.
use Rattle.std.specs.Prelude.{Bool, true, false, List, [], ◌∷◌, ◌++◌, ◌⊎◌, ◌≡◌, ℕ}
use Rattle.packet.specs.declared.Progress.{Progress}
use Rattle.packet.specs.declared.Progress.TheVariants.{Astray, Partial, Unfit, Complete, Excess}
use Rattle.packet.specs.Packet.{progress_of, is_complete}
use Rattle.state.specs.declared.Awaited.{Awaited}
use Rattle.state.specs.declared.Awaited.TheVariants.{WakeUp, Packet}
use Rattle.state.specs.Awaits.{awaits_of}
use Rattle.device_steps.specs.Step.{Machine}

abbrev pub is_unfit : Progress → Bool
is_unfit Astray = false
is_unfit Partial = false
is_unfit Unfit = true
is_unfit Complete = false
is_unfit Excess = false

-- what bytes are to the packet that is awaited; waking up awaits none
unfoldable pub progress_in : Awaited → List ℕ → Progress
progress_in (WakeUp u) q = Astray
progress_in (Packet kind) q = progress_of kind q

-- the held bytes and the new one
abbrev pub heard_with : Machine → ℕ → List ℕ
heard_with m b = m.held ++ b ∷ []

-- the byte completes a request
unfoldable pub completes : Machine → ℕ → Bool
completes m b = is_complete (progress_in (awaits_of m.state.stage) (heard_with m b))

-- the byte is the second of a length that is refused early
unfoldable pub refuses : Machine → ℕ → Bool
refuses m b = is_unfit (progress_in (awaits_of m.state.stage) (heard_with m b))

-- the byte brings a request: it completes one, or its length is refused early
abbrev pub Brings : Machine → ℕ → Type 0
Brings m b = (completes m b ≡ true) ⊎ (refuses m b ≡ true)
