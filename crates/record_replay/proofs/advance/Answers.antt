-- `record_replay::advance` meets its contract. Each direction is the definition's case of it. Assumes nothing.
use Rattle.record_replay.proofs.Playing.{host_next, reset_next}
use Rattle.record_replay.proofs.advance.Goals as goal

pub answered-requires : goal.answered-requires
answered-requires c = (c.requires.0, rw c.in-Device.is at c.requires.1)

pub returns-in-Host : goal.returns-in-Host
returns-in-Host c =
    let a = c.args in
    let pre = c.requires in
    host_next a.profile a.recording.now a.image.now a.head pre.0 a.part (rw c.in-Host.is at pre.1)

pub returns-in-Reset : goal.returns-in-Reset
returns-in-Reset c =
    let a = c.args in
    let pre = c.requires in
    reset_next a.profile a.recording.now a.image.now a.head pre.0 a.part (rw c.in-Reset.is at pre.1)
