-- The checks of a complete command, in order.
use Rattle.std.specs.Prelude.{Bool, true, not, List, [], ◌∷◌, ◌++◌, ℕ, leb, eqb}
use Rattle.verdict.specs.declared.Reason.{Reason}
use Rattle.verdict.specs.declared.Reason.TheVariants.{UnknownCommand, WrongLength, WrongStage, NoSuchArea}
use Rattle.verdict.specs.Check.{Check, ◌gives◌}
use Rattle.profile.specs.declared.Profile.{Profile}
use Rattle.profile.specs.Areas.{areas_of}
use Rattle.profile_ranges.specs.declared.Purpose.TheVariants.{Erase as ToErase, Write as ToWrite, Read as ToRead}
use Rattle.profile_ranges.specs.Ranges.{range_checks}
use Rattle.packet.specs.Packet.{ending_checks}
use Rattle.baud.specs.Rate.{rate_checks}
use Rattle.id_code.specs.Identity.{id_checks}
use Rattle.packet_fields.specs.declared.Com.{Com}
use Rattle.packet_fields.specs.declared.Com.TheVariants.{Inquiry, Erase, Write, Read, Authenticate, Baud, Signature, Area, Unknown}
use Rattle.state.specs.declared.Stage.{Stage}
use Rattle.state.specs.declared.Stage.TheVariants.{Setting, Authentication, Command, Writing, Reading}
use Rattle.state.specs.declared.State.{State}
use Rattle.state.specs.State.{window_of}
use Rattle.packet_fields.specs.Fields.{com_number, com_of, code_at, info_count, info_of, sad_of, ead_of, brt_of, area_number_of, info_length}

abbrev pub is_unknown : Com → Bool
is_unknown cmd = eqb (com_number cmd) (com_number Unknown)

-- authentication stage permits only authenticate, command stage all but that; no command is received elsewhere
abbrev pub stage_wrong : Stage → ℕ → Bool
stage_wrong (Setting u) n = true
stage_wrong Authentication n = not (eqb n (com_number Authenticate))
stage_wrong Command n = eqb n (com_number Authenticate)
stage_wrong (Writing r) n = true
stage_wrong (Reading r) n = true

-- unknown COM, then length, then stage
unfoldable pub form_checks : Stage → ℕ → Com → ℕ → List (Check Reason)
form_checks stage n cmd count =
    (is_unknown cmd gives UnknownCommand)
    ∷ (not (eqb count (info_length cmd)) gives WrongLength)
    ∷ (stage_wrong stage n gives WrongStage)
    ∷ []

-- the number of an area that is not there
unfoldable pub area_number_checks : ℕ → List ℕ → List (Check Reason)
area_number_checks noa q = (leb noa (area_number_of q) gives NoSuchArea) ∷ []

-- the command's own
unfoldable pub own_checks : Profile → State → Com → List ℕ → List (Check Reason)
own_checks p st Inquiry q = []
own_checks p st Erase q = range_checks (areas_of p) (window_of p st) ToErase (sad_of q) (ead_of q)
own_checks p st Write q = range_checks (areas_of p) (window_of p st) ToWrite (sad_of q) (ead_of q)
own_checks p st Read q = range_checks (areas_of p) (window_of p st) ToRead (sad_of q) (ead_of q)
own_checks p st Authenticate q = id_checks st.id (info_of q)
own_checks p st Baud q = rate_checks p.sci p.rmb (brt_of q)
own_checks p st Signature q = []
own_checks p st Area q = area_number_checks p.noa q
own_checks p st Unknown q = []

-- the form, then the command's own
unfoldable pub known_checks : Profile → State → List ℕ → List (Check Reason)
known_checks p st q = form_checks st.stage (code_at q) (com_of (code_at q)) (info_count q) ++ own_checks p st (com_of (code_at q)) q

-- ETX and SUM before all
unfoldable pub command_checks : Profile → State → List ℕ → List (Check Reason)
command_checks p st q = ending_checks q ++ known_checks p st q
