-- A device that is not where the host takes it to be: what it answers, and what the judge makes of that; and devices that are in step. Computed, for
-- every image. Assumes nothing.
use mathlib.Core.Bool.{true}
use mathlib.Core.List.{List, [], ◌∷◌, map}
use mathlib.Core.Path.{◌≡◌, refl}
use Prim.Native.Nat.{ℕ}
use native.Mathlib.Omega.{arith}
use lib.ListN.{length}
use Rattle.numbers.specs.Bytes.{number, value_at, bytes_of}
use Rattle.verdict.specs.Check.{first_fault}
use Rattle.profile.specs.Areas.{areas_of, entries, inside, tally, total_of}
use Rattle.profile.specs.Places.{place_from}
use Rattle.profile.specs.Bench.{bench}
use Rattle.profile_rules.specs.Rules.{Accepted, profile_checks, head_checks, area_checks, table_checks, tail_checks, unit_fits, config, small_config}
use Rattle.profile_ranges.specs.Ranges.{unit_checks, limited, window_checks, change_checks, purpose_checks, end_checks, range_checks}
use Rattle.packet.specs.Packet.{permitted, length_of, measured_of, progress_of, sum_of, ending_checks, ends_well, lack, frame}
use Rattle.packet_fields.specs.Fields.{com_in, com_of, four_at}
use Rattle.state.specs.declared.Range.{Range}
use Rattle.state.specs.declared.Stage.{Stage}
use Rattle.state.specs.declared.Stage.TheVariants.{Command, Writing, Reading}
use Rattle.state.specs.State.{fresh_state, with_held, window_of}
use Rattle.state.specs.Awaits.{awaits_of}
use Rattle.state.specs.Fits.{range_fits, stage_fits}
use Rattle.check_command.specs.Commands.{form_checks, known_checks, command_checks}
use Rattle.check_transfer.specs.Transfer.{amount_checks, target_checks, write_checks, asks_next, next_checks}
use Rattle.answer.specs.Answer.{moved}
use Rattle.answer_command.specs.Grants.{decided, answer_command}
use Rattle.answer_transfer.specs.Transfers.{write_decided, answer_write, next_decided, answer_next}
use Rattle.device_steps.specs.Step.{Machine, heard, step_in, step_of}
use Rattle.device_steps.specs.Feed.{feed_of}
use Rattle.device_steps.specs.Fits.{FitMachine}
use Rattle.device_steps.proofs.Settles.{empty_fits}
use Rattle.host_request.specs.declared.Request.{Request}
use Rattle.host_request.specs.declared.Request.TheVariants.{Inquiry, Read, WriteData, Next}
use Rattle.host_request.specs.Request.{enclosable, request_checks}
use Rattle.host_judge.specs.declared.Judgement.{Judgement}
use Rattle.host_judge.specs.declared.Judgement.TheVariants.{Unanswered, Refused, WrongReply}
use Rattle.host_judge.specs.Reply.{grants, denies, judged_by, from_mark, packet_judged, judged_at, judgement_of}
use Rattle.host_device.specs.Agreement.{Sent, sending}

-- a device of the bench profile in a stage, with bytes of an incomplete packet
abbrev pub device_with : Stage → List ℕ → List ℕ → Machine
device_with stage held image = record { image = image; held = held; state = with_held (length held) (moved stage (fresh_state bench)) }

-- what came back, and what the judge says of it
pub record HeardBack : Type 0 where
  pub back : List ℕ
  pub judgement : Judgement

-- where the device is, what is sent, and what comes of it
pub record Meeting : Type 0 where
  pub stage : Stage
  pub held : List ℕ
  pub request : Request
  pub bytes : List ℕ
  pub comes : HeardBack

-- the status reply C1h with this RES and SUM
abbrev pub status_c1 : ℕ → ℕ → List ℕ
status_c1 res sum = 0x81 ∷ 0x00 ∷ 0x02 ∷ res ∷ 0xC1 ∷ sum ∷ 0x03 ∷ []

-- C1h, told by this RES, and what the judge takes it for
abbrev pub told_c1 : ℕ → ℕ → Judgement → HeardBack
told_c1 res sum judgement = record { back = status_c1 res sum; judgement = judgement }

-- what is left of a write or a read under way
abbrev pub page : Range
page = record { next = 0; left = 128 }

-- what comes of a step that was lost
abbrev pub meetings : List Meeting
meetings =
    -- two bytes of a command that was cut short are held: they and the request's first four make a packet with COM 00h
    -- and a wrong ETX. To an inquiry, whose COM that is, it is a refusal; to a read it is a wrong reply
    record { stage = Command; held = 0x01 ∷ 0x00 ∷ []; request = Inquiry; bytes = []; comes = told_c1 0x80 0xBD (Refused 0xC1) }
    ∷ record { stage = Command; held = 0x01 ∷ 0x00 ∷ []; request = Read 0 255; bytes = []; comes = told_c1 0x80 0xBD WrongReply }
    -- the device writes, the host reads; and the other way round
    ∷ record { stage = Writing page; held = []; request = Next 1; bytes = []; comes = told_c1 0x93 0xAA WrongReply }
    ∷ record { stage = Reading page; held = []; request = WriteData; bytes = 0xFF ∷ []; comes = told_c1 0x95 0xA8 WrongReply }
    -- the device awaits a command: data is skipped up to its first 01h, and what follows is taken for a length that is refused early
    ∷ record { stage = Command; held = []; request = WriteData; bytes = 0x01 ∷ 0x00 ∷ 0x00 ∷ []; comes = told_c1 0x80 0xBD WrongReply }
    -- a next packet has no 01h, so nothing comes back
    ∷ record { stage = Command; held = []; request = Next 1; bytes = []; comes = record { back = []; judgement = Unanswered } }
    ∷ []

-- what comes of it by the definitions
abbrev pub heard_back_of : List ℕ → Meeting → HeardBack
heard_back_of image l =
    let back = (sending bench (device_with l.stage l.held image) l.request l.bytes).reply in
    record { back = back; judgement = judgement_of l.request back }

-- it is what the definitions say
pub meetings_hold : (image : List ℕ) → map (heard_back_of image) meetings ≡ map (λ (l : Meeting). l.comes) meetings
unfolding feed_of step_of step_in heard answer_command decided command_checks known_checks form_checks com_of com_in four_at fresh_state
    answer_write write_decided write_checks target_checks amount_checks answer_next next_decided next_checks asks_next first_fault
    progress_of measured_of length_of permitted ending_checks ends_well sum_of lack frame number value_at bytes_of
    judgement_of judged_at packet_judged judged_by grants denies from_mark
meetings_hold image = refl

-- the bench profile is accepted
pub bench_accepted : Accepted bench
unfolding Accepted first_fault profile_checks head_checks area_checks table_checks tail_checks unit_fits config small_config entries tally
bench_accepted = refl

-- what is asked of a request that was sent can be met: of a command, and of a write and a read that are under way
module _ (image : List ℕ) (whole : length image ≡ total_of (areas_of bench)) where
  -- a device that holds nothing fits where its stage does
  bench_fits : (stage : Stage) → stage_fits (areas_of bench) (window_of bench (fresh_state bench)) stage ≡ true
      → FitMachine bench (device_with stage [] image)
  bench_fits stage e = record { count = refl; held = empty_fits (awaits_of stage); stage = e }

  -- a command
  pub inquiry_sent : Sent bench (device_with Command [] image) Inquiry []
  unfolding stage_fits request_checks enclosable first_fault fresh_state
  inquiry_sent =
      record { profile = bench_accepted; image = whole; fits = bench_fits Command refl; idle = refl; step = refl; width = tt; buildable = refl }

  -- data of a write
  pub data_sent : Sent bench (device_with (Writing page) [] image) WriteData (0xFF ∷ [])
  unfolding stage_fits range_fits range_checks end_checks purpose_checks change_checks unit_checks window_checks limited entries inside place_from
      request_checks enclosable first_fault fresh_state
  data_sent =
      record {
        profile = bench_accepted;
        image = whole;
        fits = bench_fits (Writing page) refl;
        idle = refl;
        step = record { range = page; is = refl };
        width = tt;
        buildable = refl;
      }

  -- the next packet of a read
  pub next_sent : Sent bench (device_with (Reading page) [] image) (Next 128) []
  unfolding stage_fits range_fits range_checks end_checks purpose_checks change_checks unit_checks window_checks limited entries inside place_from
      request_checks enclosable first_fault fresh_state
  next_sent =
      record {
        profile = bench_accepted;
        image = whole;
        fits = bench_fits (Reading page) refl;
        idle = refl;
        step = record { range = page; is = refl; amount = refl };
        width = omega arith;
        buildable = refl;
      }
