-- When a state fits the profile and the receive buffer.
use Rattle.std.specs.Prelude.{Bool, true, ◌&&◌, List, ℕ, ◌+◌, ◌-◌, length, take, leb}
use Rattle.verdict.specs.Check.{first_fault, passes}
use Rattle.profile.specs.declared.Area.{Area}
use Rattle.profile.specs.declared.Profile.{Profile}
use Rattle.profile.specs.declared.Window.{Window}
use Rattle.profile.specs.Areas.{areas_of}
use Rattle.profile_ranges.specs.declared.Purpose.{Purpose}
use Rattle.profile_ranges.specs.declared.Purpose.TheVariants.{Write, Read}
use Rattle.profile_ranges.specs.Ranges.{range_checks}
use Rattle.state.specs.declared.Range.{Range}
use Rattle.state.specs.declared.Stage.{Stage}
use Rattle.state.specs.declared.Stage.TheVariants.{Setting, Authentication, Command, Writing, Reading}
use Rattle.state.specs.declared.State.{State}
use Rattle.state.specs.Awaits.{awaits_of, held_fits}
use Rattle.state.specs.State.{window_of}

-- a range with at least one byte left, of addresses of 32 bits, that the purpose permits
unfoldable pub range_fits : List Area → Window → Purpose → Range → Bool
range_fits areas w purpose r =
    leb 1 r.left
    && (leb (r.next + r.left) 0x100000000 && passes (first_fault (range_checks areas w purpose r.next (r.next + r.left - 1))))

unfoldable pub stage_fits : List Area → Window → Stage → Bool
stage_fits areas w (Setting u) = true
stage_fits areas w Authentication = true
stage_fits areas w Command = true
stage_fits areas w (Writing r) = range_fits areas w Write r
stage_fits areas w (Reading r) = range_fits areas w Read r

unfoldable pub fits_of : Profile → State → List ℕ → Bool
fits_of p st receive =
    leb st.held (length receive)
    && (held_fits (awaits_of st.stage) (take st.held receive) && stage_fits (areas_of p) (window_of p st) st.stage)
