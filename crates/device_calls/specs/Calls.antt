-- Which calls are refused, with which number; what starting gives.
use Rattle.std.specs.Prelude.{Bool, true, false, not, List, [], ◌∷◌, ◌++◌, ◌≡◌, ℕ, length, ltb, eqb, Option, Result, Ok, Err}
use Rattle.verdict.specs.Check.{Check, ◌gives◌, first_fault, passes, verdict_of}
use Rattle.profile.specs.declared.Profile.{Profile}
use Rattle.profile.specs.Areas.{areas_of, total_of}
use Rattle.profile_rules.specs.Rules.{profile_checks}
use Rattle.packet.specs.Frame.{longest_packet}
use Rattle.state.specs.declared.State.{State}
use Rattle.state.specs.State.{fresh_state}
use Rattle.state.specs.Fits.{fits_of}
use Rattle.device_calls.specs.declared.Row.{Row}
use Rattle.device_calls.specs.declared.Row.TheVariants.{Unacceptable, WrongImage, WrongState, ShortReceive, ShortReply}
use Rattle.device_calls.specs.declared.Started.{Started}

-- the buffers that a call is lent
pub record Lent : Type 0 where
  pub image : List ℕ
  pub receive : List ℕ
  pub reply : List ℕ

abbrev pub buffers : List ℕ → List ℕ → List ℕ → Lent
buffers image receive reply = record { image = image; receive = receive; reply = reply }

-- a call is accepted, or refused by a row
abbrev pub Refusal : Type 0
Refusal = Result (Unit {0}) Row

-- the paper's numbers; an accepted call has its own
abbrev pub row_number : Row → ℕ
row_number Unacceptable = 4
row_number WrongImage = 1
row_number WrongState = 5
row_number ShortReceive = 2
row_number ShortReply = 3

abbrev pub number_of : Refusal → ℕ
number_of (Ok tt) = 0
number_of (Err row) = row_number row

-- the rows of starting and resetting, for an image of n bytes
unfoldable pub start_rows : Profile → ℕ → List (Check Row)
start_rows p n =
    (not (passes (first_fault (profile_checks p))) gives Unacceptable)
    ∷ (not (eqb n (total_of (areas_of p))) gives WrongImage)
    ∷ []

-- the rows that feeding has besides, for a reply buffer of k bytes
unfoldable pub buffer_rows : Profile → State → List ℕ → ℕ → List (Check Row)
buffer_rows p st receive k =
    (not (fits_of p st receive) gives WrongState)
    ∷ (ltb (length receive) longest_packet gives ShortReceive)
    ∷ (ltb k longest_packet gives ShortReply)
    ∷ []

unfoldable pub feed_rows : Profile → State → Lent → List (Check Row)
feed_rows p st l = start_rows p (length l.image) ++ buffer_rows p st l.receive (length l.reply)

-- a call to which none of its rows applies is accepted
abbrev pub refusal_of : Option Row → Refusal
refusal_of = verdict_of

abbrev pub start_refusal : Profile → ℕ → Refusal
start_refusal p n = refusal_of (first_fault (start_rows p n))

abbrev pub feed_refusal : Profile → State → Lent → Refusal
feed_refusal p st l = refusal_of (first_fault (feed_rows p st l))

abbrev pub is_accepted : Refusal → Bool
is_accepted (Ok tt) = true
is_accepted (Err row) = false

-- the state that starting and resetting give, by the one before; starting has the zero state before
abbrev pub started_at : Refusal → Profile → State → State
started_at (Ok tt) p before = fresh_state p
started_at (Err row) p before = before

-- what they answer
abbrev pub started_by : Refusal → Profile → State → Started
started_by refusal p before = record { refusal = refusal; state = started_at refusal p before }

-- what they promise, for an image of n bytes: the paper's number of the first row that applies, 0 where none does, and all of the answer
pub record Starts (p : Profile) (n : ℕ) (before : State) (r : Started) : Type 0 where
  pub number : number_of r.refusal ≡ number_of (start_refusal p n)
  pub is : r ≡ started_by (start_refusal p n) p before
