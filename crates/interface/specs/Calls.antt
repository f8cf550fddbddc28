-- Which calls from outside are refused, with which number: the rows of the protocol, with bytes for profile and state.
use Rattle.std.specs.Prelude.{true, not, List, [], ◌∷◌, ◌++◌, ℕ, length, eqb, Option, None, Some}
use Rattle.verdict.specs.Check.{Check, ◌gives◌, first_fault}
use Rattle.profile.specs.declared.Profile.{Profile}
use Rattle.state.specs.declared.State.{State}
use Rattle.profile_bytes.specs.Profile.{profile_in}
use Rattle.state_bytes.specs.State.{state_length, state_in}
use Rattle.device_calls.specs.declared.Row.{Row}
use Rattle.device_calls.specs.declared.Row.TheVariants.{WrongState}
use Rattle.device_calls.specs.Calls.{start_rows, buffer_rows, refusal_of, Refusal}

-- the bytes that a call from outside is lent
pub record LentBytes : Type 0 where
  pub image : List ℕ
  pub state : List ℕ
  pub receive : List ℕ
  pub reply : List ℕ

abbrev pub bytes : List ℕ → List ℕ → List ℕ → List ℕ → LentBytes
bytes image state receive reply = record { image = image; state = state; receive = receive; reply = reply }

-- starting and resetting: of the state's bytes only their number k counts
unfoldable pub starting_rows : List ℕ → ℕ → ℕ → List (Check Row)
starting_rows profile n k = start_rows (profile_in profile) n ++ (not (eqb k state_length) gives WrongState) ∷ []

-- bytes that are no state do not fit
abbrev pub state_rows : Profile → Option State → List ℕ → ℕ → List (Check Row)
state_rows p None receive room = (true gives WrongState) ∷ []
state_rows p (Some st) receive room = buffer_rows p st receive room

unfoldable pub feeding_rows : List ℕ → LentBytes → List (Check Row)
feeding_rows profile l =
    start_rows (profile_in profile) (length l.image) ++ state_rows (profile_in profile) (state_in l.state) l.receive (length l.reply)

abbrev pub starting_refusal : List ℕ → ℕ → ℕ → Refusal
starting_refusal profile n k = refusal_of (first_fault (starting_rows profile n k))

abbrev pub feeding_refusal : List ℕ → LentBytes → Refusal
feeding_refusal profile l = refusal_of (first_fault (feeding_rows profile l))
