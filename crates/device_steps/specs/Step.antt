-- One received byte.
use Rattle.std.specs.Prelude.{List, [], ◌∷◌, ◌++◌, ℕ, length, take, Err}
use Rattle.verdict.specs.declared.Reason.TheVariants.{LengthRefused}
use Rattle.profile.specs.declared.Profile.{Profile}
use Rattle.profile.specs.Areas.{areas_of}
use Rattle.packet.specs.declared.Progress.{Progress}
use Rattle.packet.specs.declared.Progress.TheVariants.{Astray, Partial, Unfit, Complete, Excess}
use Rattle.packet.specs.Packet.{progress_of}
use Rattle.packet_fields.specs.declared.Com.TheVariants.{Write, Read}
use Rattle.packet_fields.specs.Fields.{com_number, info_of}
use Rattle.packet_reply.specs.Reply.{status_reply}
use Rattle.flash.specs.declared.Act.TheVariants.{Nothing}
use Rattle.flash.specs.Acts.{performed}
use Rattle.state.specs.declared.Awaited.{Awaited}
use Rattle.state.specs.declared.Awaited.TheVariants.{WakeUp, Packet}
use Rattle.state.specs.declared.Stage.{Stage}
use Rattle.state.specs.declared.Stage.TheVariants.{Setting, Authentication, Command, Writing, Reading}
use Rattle.state.specs.declared.State.{State}
use Rattle.state.specs.Awaits.{awaits_of}
use Rattle.state.specs.State.{with_held}
use Rattle.answer.specs.Answer.{Answer, moved}
use Rattle.answer_command.specs.Grants.{answer_command}
use Rattle.answer_transfer.specs.Transfers.{answer_write, answer_next}
use Rattle.answer_waking.specs.Wake.{wake_of}
use Rattle.device_calls.specs.Calls.{Lent}

-- the device between two bytes: the image, the bytes held of an incomplete packet, the state
pub record Machine : Type 0 where
  pub image : List ℕ
  pub held : List ℕ
  pub state : State

-- the machine that a state and the lent buffers make
abbrev pub machine_of : State → Lent → Machine
machine_of st l = record { image = l.image; held = take st.held l.receive; state = st }

pub record Step : Type 0 where
  pub machine : Machine
  pub reply : List ℕ

-- the act of an answer is performed, with the data bytes of what was answered, and nothing is held any more
abbrev pub settled : Profile → Machine → List ℕ → Answer → Step
settled p m bytes a =
    record { machine = record { image = performed (areas_of p) a.act bytes m.image; held = []; state = a.state }; reply = a.reply }

-- no answer; these bytes are held
abbrev pub holding : List ℕ → Machine → Step
holding q m =
    record { machine = record { image = m.image; held = q; state = with_held (length q) m.state }; reply = [] }

-- a refused length: its COM or RES, 00h where none has come yet, and the stage that it leads to; a transfer is over. The clause of setting never
-- decides: proofs/Defaults, `setting_refuses_none`
abbrev pub early_of : Stage → ℕ × Stage
early_of (Setting u) = (0x00, Setting u)
early_of Authentication = (0x00, Authentication)
early_of Command = (0x00, Command)
early_of (Writing r) = (com_number Write, Command)
early_of (Reading r) = (com_number Read, Command)

-- a length outside its range
abbrev pub refused_early : State → Answer
refused_early st =
    record { act = Nothing; state = moved (early_of st.stage).1 st; reply = status_reply (early_of st.stage).0 (Err LengthRefused) }

-- what answers a complete packet; setting awaits none, and its clause never decides: proofs/Defaults, `setting_completes_none`
abbrev pub answer_of : Profile → List ℕ → State → Stage → List ℕ → Answer
answer_of p image st (Setting u) q = answer_command p image st q
answer_of p image st Authentication q = answer_command p image st q
answer_of p image st Command q = answer_command p image st q
answer_of p image st (Writing r) q = answer_write p image st r q
answer_of p image st (Reading r) q = answer_next p image st r q

-- what the held bytes and the new one, q, lead to; a byte that starts no packet is skipped. The clause of excess never decides: proofs/Defaults,
-- `never_excess`
unfoldable pub heard : Profile → Machine → List ℕ → Progress → Step
heard p m q Astray = holding [] m
heard p m q Partial = holding q m
heard p m q Unfit = settled p m [] (refused_early m.state)
heard p m q Complete = settled p m (info_of q) (answer_of p m.image m.state m.state.stage q)
heard p m q Excess = holding [] m

-- by what is awaited
unfoldable pub step_in : Profile → Machine → Awaited → ℕ → Step
step_in p m (WakeUp u) b = settled p m [] (wake_of p m.image m.state u b)
step_in p m (Packet kind) b = heard p m (m.held ++ b ∷ []) (progress_of kind (m.held ++ b ∷ []))

unfoldable pub step_of : Profile → Machine → ℕ → Step
step_of p m b = step_in p m (awaits_of m.state.stage) b
