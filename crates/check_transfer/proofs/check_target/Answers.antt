-- `check_transfer::check_target` meets its contract. Only a granted amount leads on to the units, so the amount's fault stays the first. Assumes nothing.
use native.Mathlib.Omega.{arith}
use Rattle.std.proofs.Common.{◌≡◌, None, sym, ◌∙◌}
use Rattle.verdict.specs.Check.{first_fault}
use Rattle.verdict.proofs.FirstFault.{granted_clear, exits}
use Rattle.check_transfer.specs.Transfer.{amount_checks, target_checks}
use Rattle.check_transfer.proofs.TransferLaws.{amount_any, amount_most}
use Rattle.check_transfer.proofs.check_target.Goals as goal

pub check_units-requires : goal.check_units-requires
check_units-requires c =
    let a = c.args in
    let granted : first_fault (amount_checks a.range.left a.packet.now) ≡ None = granted_clear _ (sym c.check_amount.ensures ∙ c.in_ok-check_amount.was) in (
      omega (arith, amount_any a.range.left a.packet.now granted, c.info_count.ensures),
      omega (arith, amount_most a.range.left a.packet.now granted, c.info_count.ensures),
    )

pub returns-in_err-check_amount : goal.returns-in_err-check_amount
unfolding target_checks
returns-in_err-check_amount c = exits _ _ _ _ c.from_residual.ensures.1 c.check_amount.ensures c.in_err-check_amount.was
