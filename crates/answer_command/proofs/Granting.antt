-- What answers a command by its equations: an answer that is built of what was read and looked up is the one that is defined. Assumes nothing.
use mathlib.Core.List.{List}
use mathlib.Core.Path.{◌≡◌, sym, ap, ◌∙◌}
use Prim.Native.Nat.{ℕ}
use Rattle.verdict.specs.declared.Reason.{Reason}
use Rattle.verdict.specs.Check.{first_fault, verdict_of}
use Rattle.profile.specs.declared.Profile.{Profile}
use Rattle.packet_fields.specs.declared.Com.{Com}
use Rattle.packet_fields.specs.Fields.{com_of, code_at}
use Rattle.flash.specs.declared.Act.TheVariants.{Nothing}
use Rattle.state.specs.declared.State.{State}
use Rattle.state.specs.State.{with_held}
use Rattle.check_command.specs.Commands.{command_checks}
use Rattle.std.specs.Prelude.{Ok, Err}
use Rattle.answer_command.specs.Grants.{told, grant_of, decided, answer_command}

-- the command decides
pub by_command : (p : Profile) (image : List ℕ) (st : State) (q : List ℕ) {cmd Known-as : Com} → cmd ≡ Known-as → grant_of p image st q Known-as ≡ grant_of p image st q cmd
by_command p image st q e = ap (grant_of p image st q) (sym e)

-- the verdict decides
module _ (p : Profile) (image : List ℕ) (st : State) (q : List ℕ) where
  pub refused_as : (reason : Reason) (request : ℕ) → request ≡ code_at q → verdict_of (first_fault (command_checks p st q)) ≡ Err reason
      → told q (Err reason) Nothing (with_held 0 st) ≡ answer_command p image st q
  unfolding answer_command decided
  refused_as reason request b v = ap (decided p image st q) (sym v)

  pub granted_as : (cmd : Com) → cmd ≡ com_of (code_at q) → verdict_of (first_fault (command_checks p st q)) ≡ Ok tt
      → grant_of p image st q cmd ≡ answer_command p image st q
  unfolding answer_command decided
  granted_as cmd e v = ap (grant_of p image st q) e ∙ ap (decided p image st q) (sym v)
