-- `check_command::check_command` meets its contract. The command is asked only where ETX and SUM are granted, so their fault stays the first. Assumes nothing.
use Rattle.verdict.proofs.FirstFault.{exits}
use Rattle.check_command.specs.Commands.{command_checks}
use Rattle.check_command.proofs.check_command.Goals as goal

pub returns-in_err-check_ending : goal.returns-in_err-check_ending
unfolding command_checks
returns-in_err-check_ending c = exits _ _ _ _ c.from_residual.ensures.1 c.check_ending.ensures c.in_err-check_ending.was
