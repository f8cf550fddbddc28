-- `answer_command::answer_command` meets its contract. The verdict decides; a granted command is that of the COM that was read. Assumes nothing.
use Rattle.answer_command.proofs.Granting.{refused_as, granted_as}
use Rattle.packet_fields.specs.Fields.{com_of}
use Rattle.verdict.proofs.FirstFault.{granted_clear}
use mathlib.Core.Path.{ap, sym, ◌∙◌}
use Rattle.answer.proofs.Sending.{answers_as}
use Rattle.answer_command.proofs.answer_command.Goals as goal

pub grant-requires : goal.grant-requires
grant-requires c =
    let pre = c.requires in (
      record
          { profile = pre.0; none_applies = granted_clear _ (sym c.check_command.ensures ∙ c.in-Ok.is); is = c.from-cmd.ensures ∙ ap com_of c.byte_at-request.ensures },
      pre.1,
    )

pub returns-in-Err : goal.returns-in-Err
returns-in-Err c =
    let a = c.args in
    let byte_at = c.byte_at-request in
    answers_as (cc
    (byte_at.ensures, c.with_held.ensures, refused_as a.profile a.image.now a.state a.packet.now _ _ byte_at.ensures (sym c.check_command.ensures ∙ c.in-Err.is)))
    c.tell.ensures

pub returns-in-Ok : goal.returns-in-Ok
returns-in-Ok c =
    let a = c.args in
    answers_as (granted_as a.profile a.image.now a.state a.packet.now _
    (c.from-cmd.ensures ∙ ap com_of c.byte_at-request.ensures)
    (sym c.check_command.ensures ∙ c.in-Ok.is))
    c.grant.ensures
