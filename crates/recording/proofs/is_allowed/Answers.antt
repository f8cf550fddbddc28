-- `recording::is_allowed` meets its contract. A direction is compared by its number, and only the reset has that of a reset. Assumes nothing.
use mathlib.Core.Path.{sym, ap, ◌∙◌}
use Rattle.recording.specs.Format.{direction_number, length_allowed}
use Rattle.recording.specs.declared.Direction.{Direction}
use Rattle.recording.proofs.is_allowed.Goals as goal

pub returns-in-Host : goal.returns-in-Host
unfolding length_allowed
returns-in-Host c =
    c.is_filled.ensures ∙ ap (λ (d : Direction). length_allowed (direction_number d) c.args.count) (sym c.in-Host.is)

pub returns-in-Device : goal.returns-in-Device
unfolding length_allowed
returns-in-Device c =
    c.is_filled-in-Device.ensures ∙ ap (λ (d : Direction). length_allowed (direction_number d) c.args.count) (sym c.in-Device.is)

pub returns-in-Reset : goal.returns-in-Reset
unfolding length_allowed
returns-in-Reset c = ap (λ (d : Direction). length_allowed (direction_number d) c.args.count) (sym c.in-Reset.is)
