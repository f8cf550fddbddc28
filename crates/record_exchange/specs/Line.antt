-- The line's record: what was received up to a byte that was answered with a packet, and the reply; and each reset.
use Rattle.std.specs.Prelude.{Bool, true, false, List, [], ◌∷◌, ◌≡◌, ℕ, Option, None, Some}
use Rattle.recording.specs.Format.{Record, host, device, reset}

-- a complete packet with its reply, or the three bytes of an early refusal with theirs; a reset
pub data Entry : Type 0 where
  exchange : List ℕ → List ℕ → Entry
  restart : Entry

-- the exchanges of a recording: what the device sent answers the host's record right before it, which waits for it
unfoldable pub exchanges_from : Option (List ℕ) → List Record → List Entry
exchanges_from waiting [] = []
exchanges_from waiting (host q ∷ more) = exchanges_from (Some q) more
exchanges_from None (device reply ∷ more) = exchanges_from None more
exchanges_from (Some q) (device reply ∷ more) = exchange q reply ∷ exchanges_from None more
exchanges_from waiting (reset ∷ more) = restart ∷ exchanges_from None more

abbrev pub exchanges_of : List Record → List Entry
exchanges_of records = exchanges_from None records

-- a line's record as a recording has it: each request as one host record, with its reply as the device record right behind it
unfoldable pub taped : List Entry → List Record
taped [] = []
taped (exchange q reply ∷ es) = host q ∷ device reply ∷ taped es
taped (restart ∷ es) = reset ∷ taped es

abbrev pub is_host : Record → Bool
is_host (host q) = true
is_host (device reply) = false
is_host reset = false

abbrev pub begins_device : List Record → Bool
begins_device [] = false
begins_device (host q ∷ more) = false
begins_device (device reply ∷ more) = true
begins_device (reset ∷ more) = false

unfoldable pub ends_host : List Record → Bool
ends_host [] = false
ends_host (r ∷ []) = is_host r
ends_host (r ∷ s ∷ more) = ends_host (s ∷ more)

-- a record that is no half of a pair, between those before it and those behind it: what the host sent and no device record follows at
-- once, or what the device sent and no host record stands right before
abbrev pub Stray : List Record → Record → List Record → Type 0
Stray before (host q) behind = begins_device behind ≡ false
Stray before (device reply) behind = ends_host before ≡ false
Stray before reset behind = ⊥
