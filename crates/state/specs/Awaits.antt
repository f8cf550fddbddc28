-- What a stage waits for: a wake-up with its low pulses, or a packet of a kind.
use Rattle.std.specs.Prelude.{Bool, List, ℕ, length, eqb}
use Rattle.packet.specs.declared.Kind.TheVariants.{Command as CommandPacket, Data as DataPacket}
use Rattle.packet.specs.Packet.{progress_of, is_partial}
use Rattle.state.specs.declared.Awaited.{Awaited}
use Rattle.state.specs.declared.Awaited.TheVariants.{WakeUp, Packet}
use Rattle.state.specs.declared.Stage.{Stage}
use Rattle.state.specs.declared.Stage.TheVariants.{Setting, Authentication, Command, Writing, Reading}

abbrev pub awaits_of : Stage → Awaited
awaits_of (Setting pulse) = WakeUp pulse
awaits_of Authentication = Packet CommandPacket
awaits_of Command = Packet CommandPacket
awaits_of (Writing r) = Packet DataPacket
awaits_of (Reading r) = Packet DataPacket

-- held bytes are an incomplete packet of the awaited kind; a wake-up holds none
unfoldable pub held_fits : Awaited → List ℕ → Bool
held_fits (WakeUp pulse) held = eqb (length held) 0
held_fits (Packet kind) held = is_partial (progress_of kind held)
