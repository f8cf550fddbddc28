-- Waking up: 00h 00h is answered by 00h, then 55h by C3h. With C3h the ID is latched.
use Rattle.std.specs.Prelude.{cond, List, [], ◌∷◌, ℕ, eqb}
use Rattle.profile.specs.declared.Profile.{Profile}
use Rattle.profile.specs.Areas.{areas_of}
use Rattle.id_code.specs.Identity.{id_of, is_none}
use Rattle.state.specs.declared.Pulse.{Pulse}
use Rattle.state.specs.declared.Pulse.TheVariants.{Zero, One, Acknowledged}
use Rattle.state.specs.declared.Stage.TheVariants.{Setting, Authentication, Command}
use Rattle.state.specs.declared.State.{State}
use Rattle.state.specs.State.{with_id}
use Rattle.flash.specs.declared.Act.TheVariants.{Nothing}
use Rattle.answer.specs.Answer.{Answer, moved}

-- the ID is latched: command stage if none is stored, otherwise authentication; the line setting stays
unfoldable pub awake : Profile → List ℕ → State → State
awake p image st = with_id (id_of (areas_of p) image) (moved (cond (is_none (id_of (areas_of p) image)) Command Authentication) st)

-- no byte of the flash changes
abbrev pub woken : State → List ℕ → Answer
woken st reply = record { act = Nothing; state = st; reply = reply }

-- setting goes on at a pulse, without an answer or with one
abbrev pub goes : State → Pulse → List ℕ → Answer
goes st pulse reply = woken (moved (Setting pulse) st) reply

unfoldable pub wake_of : Profile → List ℕ → State → Pulse → ℕ → Answer
wake_of p image st Zero b = cond (eqb b 0x00) (goes st One []) (goes st Zero [])
wake_of p image st One b = cond (eqb b 0x00) (goes st Acknowledged (0x00 ∷ [])) (goes st Zero [])
wake_of p image st Acknowledged b =
    cond (eqb b 0x55) (woken (awake p image st) (0xC3 ∷ []))
    (cond (eqb b 0x00) (goes st Acknowledged []) (goes st Zero []))
