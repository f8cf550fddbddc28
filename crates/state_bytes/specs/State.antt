-- A state as 33 bytes: stage 1, low pulses 1, next address 4, bytes left 4, ID 16, ABCS 1, BRR 1, MDDR 1, held count 4.
use Rattle.std.specs.Prelude.{◌&&◌, cond, List, [], ◌∷◌, ◌++◌, ℕ, length, get_or, eqb, Option, None, Some}
use Rattle.numbers.specs.Bytes.{bytes_of}
use Rattle.state.specs.declared.Pulse.{Pulse}
use Rattle.state.specs.declared.Pulse.TheVariants.{Zero, One, Acknowledged}
use Rattle.state.specs.declared.Range.{Range}
use Rattle.state.specs.declared.Stage.{Stage}
use Rattle.state.specs.declared.Stage.TheVariants.{Setting, Authentication, Command, Writing, Reading}
use Rattle.state.specs.declared.State.{State}
use Rattle.packet_fields.specs.Fields.{four_at, bytes_from}

abbrev pub state_length : ℕ
state_length = 33

-- the stages' numbers
abbrev pub stage_number : Stage → ℕ
stage_number (Setting pulse) = 0
stage_number Authentication = 1
stage_number Command = 2
stage_number (Writing r) = 3
stage_number (Reading r) = 4

abbrev pub pulse_number : Pulse → ℕ
pulse_number Zero = 0
pulse_number One = 1
pulse_number Acknowledged = 2

-- low pulses: 0 outside setting
abbrev pub pulses_of : Stage → ℕ
pulses_of (Setting pulse) = pulse_number pulse
pulses_of Authentication = 0
pulses_of Command = 0
pulses_of (Writing r) = 0
pulses_of (Reading r) = 0

-- next address and bytes left: 0 outside writing and reading
abbrev pub range_of : Stage → Range
range_of (Setting pulse) = record { next = 0; left = 0 }
range_of Authentication = record { next = 0; left = 0 }
range_of Command = record { next = 0; left = 0 }
range_of (Writing r) = r
range_of (Reading r) = r

abbrev pub stage_bytes : Stage → List ℕ
stage_bytes stage =
    (stage_number stage ∷ pulses_of stage ∷ []) ++ bytes_of 4 (range_of stage).next ++ bytes_of 4 (range_of stage).left

unfoldable pub state_bytes : State → List ℕ
state_bytes st =
    stage_bytes st.stage ++ st.id ++ (st.line.abcs ∷ st.line.brr ∷ st.line.mddr ∷ []) ++ bytes_of 4 st.held

-- the other way round: setting by its pulses
abbrev pub setting_in : ℕ → Option Stage
setting_in pulses =
    cond (eqb pulses 0) (Some (Setting Zero))
    (cond (eqb pulses 1) (Some (Setting One))
    (cond (eqb pulses 2) (Some (Setting Acknowledged))
    None))

-- a stage by its number, where low pulses and range are 0 if it has none
unfoldable pub stage_of : ℕ → ℕ → Range → Option Stage
stage_of n pulses r =
    cond (eqb n 0) (cond (eqb r.next 0 && eqb r.left 0) (setting_in pulses) None)
    (cond (eqb pulses 0)
    (cond (eqb n 3) (Some (Writing r))
    (cond (eqb n 4) (Some (Reading r))
    (cond (eqb r.next 0 && eqb r.left 0)
    (cond (eqb n 1) (Some Authentication) (cond (eqb n 2) (Some Command) None))
    None)))
    None)

unfoldable pub stage_in : List ℕ → Option Stage
stage_in bs =
    cond (eqb (length bs) state_length) (stage_of (get_or bs 0 0) (get_or bs 1 0) (record { next = four_at bs 2; left = four_at bs 6 })) None

-- the state of a stage, with the rest out of the bytes
unfoldable pub state_with : List ℕ → Stage → State
state_with bs stage =
    record {
      stage = stage;
      id = bytes_from 16 10 bs;
      line = record { abcs = get_or bs 26 0; brr = get_or bs 27 0; mddr = get_or bs 28 0 };
      held = four_at bs 29;
    }

abbrev pub state_by : List ℕ → Option Stage → Option State
state_by bs None = None
state_by bs (Some stage) = Some (state_with bs stage)

-- the state in the bytes, if there is one
abbrev pub state_in : List ℕ → Option State
state_in bs = state_by bs (stage_in bs)

-- what a state leaves in bytes that are lent for it: all of them if they are 33, otherwise nothing
abbrev pub state_over : State → List ℕ → List ℕ
state_over st bs = cond (eqb (length bs) state_length) (state_bytes st) bs
