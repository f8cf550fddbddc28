-- Which packets write a range: the command, then its data in packets of whole units.
use Rattle.std.specs.Prelude.{true, false, not, cond, List, [], ◌∷◌, ℕ, ◌+◌, ◌-◌, ◌*◌, ◌/◌, ◌%◌, min, take, drop, ltb, eqb, Option, None, Some, Result, Ok, Err}
use Rattle.verdict.specs.Check.{Check, ◌gives◌, first_fault}
use Rattle.packet.specs.Frame.{longest_data}
use Rattle.host_request.specs.declared.Request.TheVariants.{Write, WriteData}
use Rattle.host_plan.specs.declared.Plan.{Plan}
use Rattle.host_plan.specs.declared.Sending.{Sending}
use Rattle.host_plan.specs.declared.Unplanned.{Unplanned}
use Rattle.host_plan.specs.declared.Unplanned.TheVariants.{Reversed, NoUnit, LongUnit, StartUnaligned, EndUnaligned, WrongAmount}

-- why so many bytes cannot be planned to go to SAD to EAD, in an area with this write unit
unfoldable pub plan_checks : ℕ → ℕ → ℕ → ℕ → List (Check Unplanned)
plan_checks s e unit count =
    (ltb e s gives Reversed)
    ∷ (eqb unit 0 gives NoUnit)
    ∷ (ltb longest_data unit gives LongUnit)
    ∷ (not (eqb (s % unit) 0) gives StartUnaligned)
    ∷ (not (eqb ((e + 1) % unit) 0) gives EndUnaligned)
    ∷ (not (eqb count (e + 1 - s)) gives WrongAmount)
    ∷ []

-- as many whole units as a data packet may carry, in bytes
abbrev pub size_for : ℕ → ℕ
size_for unit = longest_data / unit * unit

abbrev pub whole_plan : ℕ → ℕ → ℕ → ℕ → Plan
whole_plan s e unit count = record { sad = s; ead = e; begun = false; size = size_for unit; from = 0; end = count }

abbrev pub planned_by : Option Unplanned → Plan → Result Plan Unplanned
planned_by None plan = Ok plan
planned_by (Some why) plan = Err why

abbrev pub plan_of : ℕ → ℕ → ℕ → ℕ → Result Plan Unplanned
plan_of s e unit count = planned_by (first_fault (plan_checks s e unit count)) (whole_plan s e unit count)

-- a plan of which the command was sent, and the data before a place
abbrev pub sent_up_to : ℕ → Plan → Plan
sent_up_to at plan = record { sad = plan.sad; ead = plan.ead; begun = true; size = plan.size; from = at; end = plan.end }

-- a packet's data, or all that is left if that is less
abbrev pub piece_end : Plan → ℕ
piece_end plan = plan.from + min (plan.end - plan.from) plan.size

-- the command, which no data goes with
abbrev pub command_of : Plan → Sending
command_of plan = record { request = Write plan.sad plan.ead; from = plan.from; to = plan.from; rest = sent_up_to plan.from plan }

-- the next piece of data
abbrev pub data_of : Plan → Sending
data_of plan = record { request = WriteData; from = plan.from; to = piece_end plan; rest = sent_up_to (piece_end plan) plan }

-- the next request: the command, then the data in order
unfoldable pub following_of : Plan → Option Sending
following_of plan = cond (not plan.begun) (Some (command_of plan)) (cond (ltb plan.from plan.end) (Some (data_of plan)) None)

-- the data that goes with a request
abbrev pub piece_of : Sending → List ℕ → List ℕ
piece_of s bytes = take (s.to - s.from) (drop s.from bytes)
