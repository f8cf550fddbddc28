-- `check_command::check_known` meets its contract. The own checks are asked only where the form is granted, so the form's fault stays the first. Assumes nothing.
use Rattle.std.proofs.Common.{sym}
use Rattle.verdict.proofs.FirstFault.{exits}
use Rattle.packet_fields.specs.Fields.{com_of, code_at, info_count}
use Rattle.check_command.specs.Commands.{form_checks, known_checks}
use Rattle.check_command.proofs.check_known.Goals as goal

pub returns-in_err-check_form : goal.returns-in_err-check_form
unfolding known_checks
returns-in_err-check_form c =
    let a = c.args in
    let q = a.packet.now in
    exits (form_checks a.state.stage (code_at q) (com_of (code_at q)) (info_count q)) _ _ _ c.from_residual.ensures.1
    (rw (sym c.byte_at-code.ensures, sym c.from-cmd.ensures, sym c.info_count.ensures) c.check_form.ensures)
    c.in_err-check_form.was
