-- A stage awaits a wake-up exactly where it is setting, with the low pulses that it has; all others await a packet. Assumes nothing.
use mathlib.Core.Logic.{◌↔◌}
use mathlib.Core.Path.{◌≡◌, ap}
use Rattle.packet.proofs.Laws.{impossible}
use Rattle.state.specs.declared.Pulse.{Pulse}
use Rattle.state.specs.declared.Stage.{Stage}
use Rattle.state.specs.declared.Stage.TheVariants.{Setting, Authentication, Command, Writing, Reading}
use Rattle.state.specs.declared.Awaited.TheVariants.{WakeUp}
use Rattle.state.specs.Awaits.{awaits_of}

pub wakes : (stage : Stage) (pulse : Pulse) → awaits_of stage ≡ WakeUp pulse → stage ≡ Setting pulse
wakes (Setting u) pulse e = cc
wakes Authentication pulse e = impossible (cc)
wakes Command pulse e = impossible (cc)
wakes (Writing r) pulse e = impossible (cc)
wakes (Reading r) pulse e = impossible (cc)

pub wakes_exactly : (stage : Stage) (pulse : Pulse) → (awaits_of stage ≡ WakeUp pulse) ↔ (stage ≡ Setting pulse)
wakes_exactly stage pulse = (wakes stage pulse, ap awaits_of)
