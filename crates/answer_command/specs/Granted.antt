-- What is known of a command that was granted.
use Rattle.std.specs.Prelude.{List, ◌≡◌, ℕ, None}
use Rattle.verdict.specs.Check.{first_fault}
use Rattle.profile.specs.declared.Profile.{Profile}
use Rattle.profile_rules.specs.Rules.{Accepted}
use Rattle.packet_fields.specs.declared.Com.{Com}
use Rattle.packet_fields.specs.Fields.{com_of, code_at}
use Rattle.state.specs.declared.State.{State}
use Rattle.check_command.specs.Commands.{command_checks}

pub record GrantedCommand (p : Profile) (st : State) (q : List ℕ) (cmd : Com) : Type 0 where
  pub profile : Accepted p
  pub none_applies : first_fault (command_checks p st q) ≡ None
  pub is : cmd ≡ com_of (code_at q)
