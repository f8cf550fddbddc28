-- `record_replay::play` meets its contract. The loop's invariant: what is left to play and where reading stops are those of the start; the measure is what is left to read. Assumes nothing.
use borrow.Enum.Refused.{opened}
use Rattle.recording.proofs.Reading.{over_by}
use Rattle.record_replay.proofs.Playing.{plays_start, plays_next, plays_over}
use native.Mathlib.Omega.{arith}
use mathlib.Core.Path.{sym, ◌∙◌}
use Rattle.record_replay.proofs.play.Goals as goal

pub loop-direction-init : goal.loop-direction-init
loop-direction-init c = plays_start c.args.profile c.args.recording.now c.args.image.now

pub shape_of-image-in_default : goal.shape_of-image-in_default
shape_of-image-in_default c = c.loop-direction.invariant.kept

pub returns-in_default : goal.returns-in_default
returns-in_default c =
    let read = c.record_at-found in
    plays_over c.loop-direction.invariant read.ensures (over_by read.result (opened c.in_default.in_default-own.keys2)) c.ended_by.ensures

pub advance-head-requires : goal.advance-head-requires
advance-head-requires c = (c.loop-direction.invariant.stands, sym c.record_at-found.ensures ∙ c.in-Is.is)

pub loop-direction-smaller : goal.loop-direction-smaller
loop-direction-smaller c = omega (arith, c.advance-head.ensures.further, c.advance-head.ensures.stands.inside)

pub loop-direction-preserved : goal.loop-direction-preserved
loop-direction-preserved c = plays_next c.loop-direction.invariant c.advance-head.ensures c.advance-head.auto.image
