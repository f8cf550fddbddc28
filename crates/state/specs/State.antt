-- The states that a device starts in, a state with one of its fields changed, and the window that holds in it.
use Rattle.std.specs.Prelude.{List, ℕ, replicate}
use Rattle.profile.specs.declared.Profile.{Profile}
use Rattle.profile.specs.declared.Window.{Window}
use Rattle.baud.specs.declared.LineSetting.{LineSetting}
use Rattle.baud.specs.Rate.{setting_of}
use Rattle.state.specs.declared.Pulse.TheVariants.{Zero}
use Rattle.state.specs.declared.Stage.{Stage}
use Rattle.state.specs.declared.Stage.TheVariants.{Setting}
use Rattle.state.specs.declared.State.{State}

-- setting with no low pulse, sixteen FFh latched, nothing held, the setting for 9,600
unfoldable pub fresh_state : Profile → State
fresh_state p = record { stage = Setting Zero; id = replicate 16 0xFF; line = setting_of p.sci 9600; held = 0 }

-- the state of a refused start: all zero
unfoldable pub zero_state : State
zero_state = record { stage = Setting Zero; id = replicate 16 0x00; line = record { abcs = 0; brr = 0; mddr = 0 }; held = 0 }

-- one field changed, the others as they are
abbrev pub with_stage : Stage → State → State
with_stage stage st = record { stage = stage; id = st.id; line = st.line; held = st.held }

abbrev pub with_id : List ℕ → State → State
with_id id st = record { stage = st.stage; id = id; line = st.line; held = st.held }

abbrev pub with_line : LineSetting → State → State
with_line line st = record { stage = st.stage; id = st.id; line = line; held = st.held }

abbrev pub with_held : ℕ → State → State
with_held count st = record { stage = st.stage; id = st.id; line = st.line; held = count }

-- the window that holds in a state
abbrev pub window_of : Profile → State → Window
window_of p st = p.window
