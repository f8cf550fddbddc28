-- The starred line examples of document 01, in one table under one statement, for every image. Assumes nothing.
use mathlib.Core.Bool.{cond}
use mathlib.Core.List.{List, [], ◌∷◌, map}
use mathlib.Core.Path.{◌≡◌, refl}
use Prim.Native.Nat.{ℕ, zero, suc}
use lib.ListN.{length, drop}
use lib.Dec.{eqb}
use Rattle.numbers.specs.Bytes.{number, value_at, bytes_of}
use Rattle.verdict.specs.Check.{first_fault}
use Rattle.profile.specs.Areas.{entries, inside}
use Rattle.profile.specs.Places.{place_from}
use Rattle.profile.specs.Bench.{bench}
use Rattle.packet.specs.Packet.{permitted, length_of, measured_of, progress_of, sum_of, ending_checks, lack, frame}
use Rattle.profile_ranges.specs.Ranges.{unit_checks, limited, window_checks, change_checks, purpose_checks, end_checks, range_checks}
use Rattle.packet_messages.specs.Messages.{signature_message}
use Rattle.state.specs.declared.Pulse.TheVariants.{Zero}
use Rattle.state.specs.declared.Stage.{Stage}
use Rattle.state.specs.declared.Stage.TheVariants.{Setting, Authentication, Command}
use Rattle.state.specs.State.{fresh_state}
use Rattle.packet_fields.specs.Fields.{com_in, com_of, four_at}
use Rattle.check_command.specs.Commands.{form_checks, area_number_checks, own_checks, known_checks, command_checks}
use Rattle.answer.specs.Answer.{moved}
use Rattle.answer_command.specs.Grants.{grant_of, decided, answer_command}
use Rattle.answer_waking.specs.Wake.{wake_of}
use Rattle.device_steps.specs.Step.{Machine, heard, step_in, step_of}
use Rattle.device_steps.specs.Feed.{feed_of}

-- a stage, what is sent, and the replies that come back
pub record Line : Type 0 where
  pub stage : Stage
  pub sent : List ℕ
  pub back : List (List ℕ)

-- up to n replies: what a reply left unread is fed again
abbrev pub replies_of : ℕ → Machine → List ℕ → List (List ℕ)
replies_of zero m bs = []
replies_of (suc n) m bs =
    let d = feed_of bench m bs in
    let more = replies_of n d.machine (drop d.consumed bs) in
    cond (eqb (length d.reply) 0) [] (d.reply ∷ more)

-- a byte brings at most one reply
abbrev pub replies : Machine → List ℕ → List (List ℕ)
replies m bs = replies_of (length bs) m bs

-- a fresh device of the bench profile, moved to a stage
abbrev pub device_in : Stage → List ℕ → Machine
device_in stage image = record { image = image; held = []; state = moved stage (fresh_state bench) }

-- the C1h reply
abbrev pub reply_c1 : List ℕ
reply_c1 = 0x81 ∷ 0x00 ∷ 0x02 ∷ 0x80 ∷ 0xC1 ∷ 0xBD ∷ 0x03 ∷ []

abbrev pub table : List Line
table =
    -- signature
    record {
      stage = Command;
      sent = 0x01 ∷ 0x00 ∷ 0x01 ∷ 0x3A ∷ 0xC5 ∷ 0x03 ∷ [];
      back =
          (0x81 ∷ 0x00 ∷ 0x0D ∷ 0x3A ∷ 0x03 ∷ 0x93 ∷ 0x87 ∷ 0x00 ∷ 0x00 ∷ 0x3D ∷ 0x09 ∷ 0x00 ∷ 0x02 ∷ 0x01 ∷ 0x01 ∷ 0x00 ∷ 0x52 ∷ 0x03 ∷ []) ∷ [];
    }
    -- inquiry, in command stage and in authentication
    ∷ record { stage = Command; sent = 0x01 ∷ 0x00 ∷ 0x01 ∷ 0x00 ∷ 0xFF ∷ 0x03 ∷ []; back = (0x81 ∷ 0x00 ∷ 0x02 ∷ 0x00 ∷ 0x00 ∷ 0xFE ∷ 0x03 ∷ []) ∷ [] }
    ∷ record { stage = Authentication; sent = 0x01 ∷ 0x00 ∷ 0x01 ∷ 0x00 ∷ 0xFF ∷ 0x03 ∷ []; back = (0x81 ∷ 0x00 ∷ 0x02 ∷ 0x80 ∷ 0xC3 ∷ 0xBB ∷ 0x03 ∷ []) ∷ [] }
    -- a wrong SUM; a wrong ETX, with a wrong SUM and with a right one
    ∷ record { stage = Command; sent = 0x01 ∷ 0x00 ∷ 0x01 ∷ 0x00 ∷ 0xFE ∷ 0x03 ∷ []; back = (0x81 ∷ 0x00 ∷ 0x02 ∷ 0x80 ∷ 0xC2 ∷ 0xBC ∷ 0x03 ∷ []) ∷ [] }
    ∷ record { stage = Command; sent = 0x01 ∷ 0x00 ∷ 0x01 ∷ 0x00 ∷ 0xFE ∷ 0x04 ∷ []; back = reply_c1 ∷ [] }
    ∷ record { stage = Command; sent = 0x01 ∷ 0x00 ∷ 0x01 ∷ 0x00 ∷ 0xFF ∷ 0x04 ∷ []; back = reply_c1 ∷ [] }
    -- lengths 0 and 257, before further bytes
    ∷ record { stage = Command; sent = 0x01 ∷ 0x00 ∷ 0x00 ∷ []; back = reply_c1 ∷ [] }
    ∷ record { stage = Command; sent = 0x01 ∷ 0x01 ∷ 0x01 ∷ []; back = reply_c1 ∷ [] }
    -- an unknown command
    ∷ record { stage = Command; sent = 0x01 ∷ 0x00 ∷ 0x01 ∷ 0x55 ∷ 0xAA ∷ 0x03 ∷ []; back = (0x81 ∷ 0x00 ∷ 0x02 ∷ 0xD5 ∷ 0xC0 ∷ 0x69 ∷ 0x03 ∷ []) ∷ [] }
    -- erase 4000h to 7FFFh
    ∷ record {
      stage = Command;
      sent = 0x01 ∷ 0x00 ∷ 0x09 ∷ 0x12 ∷ 0x00 ∷ 0x00 ∷ 0x40 ∷ 0x00 ∷ 0x00 ∷ 0x00 ∷ 0x7F ∷ 0xFF ∷ 0x27 ∷ 0x03 ∷ [];
      back = (0x81 ∷ 0x00 ∷ 0x02 ∷ 0x12 ∷ 0x00 ∷ 0xEC ∷ 0x03 ∷ []) ∷ [];
    }
    -- area number 2
    ∷ record { stage = Command; sent = 0x01 ∷ 0x00 ∷ 0x02 ∷ 0x3B ∷ 0x02 ∷ 0xC1 ∷ 0x03 ∷ []; back = (0x81 ∷ 0x00 ∷ 0x02 ∷ 0xBB ∷ 0xD0 ∷ 0x73 ∷ 0x03 ∷ []) ∷ [] }
    -- wake-up
    ∷ record { stage = Setting Zero; sent = 0x00 ∷ 0x00 ∷ 0x55 ∷ []; back = (0x00 ∷ []) ∷ (0xC3 ∷ []) ∷ [] }
    ∷ []

pub examples_hold : (image : List ℕ) → map (λ (l : Line). replies (device_in l.stage image) l.sent) table ≡ map (λ (l : Line). l.back) table
unfolding feed_of step_of step_in heard wake_of answer_command decided grant_of command_checks known_checks form_checks own_checks area_number_checks com_of com_in four_at fresh_state
    range_checks end_checks purpose_checks change_checks unit_checks window_checks limited entries inside place_from first_fault
    progress_of measured_of length_of permitted ending_checks sum_of lack frame number value_at bytes_of signature_message
examples_hold image = refl
