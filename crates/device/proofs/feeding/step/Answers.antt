-- `device::feeding::step` meets its contract, by what the stage awaits. Assumes nothing.
use Rattle.device.proofs.Steps.{stood_waking}
use Rattle.device_calls.specs.Calls.{buffers}
use mathlib.Core.Path.{sym, ◌∙◌}
use Rattle.device.proofs.feeding.step.Goals as goal

pub listen-requires : goal.listen-requires
listen-requires c = (c.requires, sym c.awaits.ensures ∙ c.in-Packet.is)

pub returns-in-WakeUp : goal.returns-in-WakeUp
returns-in-WakeUp c =
    let a = c.args in
    stood_waking a.profile a.state (buffers a.image.now a.receive.now a.reply.now) a.byte
    c.requires _ _ _
    (sym c.awaits.ensures ∙ c.in-WakeUp.is)
    c.wake.ensures
