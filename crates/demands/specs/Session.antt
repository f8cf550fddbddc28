-- Calls as a caller makes them, one behind the other, with what each left and answered. Between two calls nobody else touches what was lent.
use Rattle.std.specs.Prelude.{List, [], ◌∷◌, ◌++◌, ◌≡◌, ℕ, zero, suc, length, take, Ok, Err}
use Rattle.profile.specs.declared.Profile.{Profile}
use Rattle.state.specs.declared.State.{State}
use Rattle.device_calls.specs.declared.Started.{Started}
use Rattle.device_calls.specs.Calls.{Lent, buffers, Starts, Refusal}
use Rattle.device_steps.specs.Step.{Machine, machine_of}
use Rattle.device.specs.declared.Fed.{Fed}
use Rattle.device.specs.Post.{Feeds}
use Rattle.record_history.specs.History.{Call, deliver, again}

-- what a caller keeps between two calls
pub record Kept : Type 0 where
  pub image : List ℕ
  pub receive : List ℕ
  pub state : State

-- what a feed is lent: that, and some reply buffer
abbrev pub lent_by : Kept → List ℕ → Lent
lent_by k reply = buffers k.image k.receive reply

-- the machine that is kept
abbrev pub machine_in : Kept → Machine
machine_in k = machine_of k.state (lent_by k [])

-- a call with what it left and answered: bytes fed with what is kept and a reply buffer; a reset; a feed of the same image and receive buffer
-- with another profile or state, by mistake
pub data Turn : Type 0 where
  feeding : List ℕ → List ℕ → Lent → Fed → Turn
  resetting : Started → Turn
  mistaking : Profile → State → List ℕ → List ℕ → Lent → Fed → Turn

-- the call did what it promises; a mistake was refused
abbrev pub Honest : Profile → Kept → Turn → Type 0
Honest p k (feeding input reply after r) = Feeds p k.state input (lent_by k reply) after r
Honest p k (resetting r) = Starts p (length k.image) k.state r
Honest p k (mistaking other st input reply after r) = Feeds other st input (lent_by k reply) after r × (r.refusal ≡ Ok tt → ⊥)

-- what is kept behind it; whose state a mistake gave back is not the caller's
abbrev pub kept_by : Kept → Turn → Kept
kept_by k (feeding input reply after r) = record { image = after.image; receive = after.receive; state = r.state }
kept_by k (resetting r) = record { image = k.image; receive = k.receive; state = r.state }
kept_by k (mistaking other st input reply after r) = record { image = after.image; receive = after.receive; state = k.state }

unfoldable pub kept_after : Kept → List Turn → Kept
kept_after k [] = k
kept_after k (t ∷ more) = kept_after (kept_by k t) more

-- every call did
unfoldable pub AllHonest : Profile → Kept → List Turn → Type 0
AllHonest p k [] = Unit {0}
AllHonest p k (t ∷ more) = Honest p k t × AllHonest p (kept_by k t) more

-- the history that calls are: the bytes that a feed consumed, and each reset; what was refused is none of it
abbrev pub reset_in : Refusal → List Call
reset_in (Ok tt) = again ∷ []
reset_in (Err row) = []

abbrev pub calls_in : Turn → List Call
calls_in (feeding input reply after r) = deliver (take r.consumed input) ∷ []
calls_in (resetting r) = reset_in r.refusal
calls_in (mistaking other st input reply after r) = []

unfoldable pub history_of : List Turn → List Call
history_of [] = []
history_of (t ∷ more) = calls_in t ++ history_of more

-- the replies that the caller got
abbrev pub reply_of : ℕ → List ℕ → List (List ℕ)
reply_of zero buffer = []
reply_of (suc n) buffer = take (suc n) buffer ∷ []

abbrev pub got_by : Turn → List (List ℕ)
got_by (feeding input reply after r) = reply_of r.count after.reply
got_by (resetting r) = []
got_by (mistaking other st input reply after r) = reply_of r.count after.reply

unfoldable pub got_in : List Turn → List (List ℕ)
got_in [] = []
got_in (t ∷ more) = got_by t ++ got_in more
