-- `record_driver::run` meets its contract. The loop keeps that all records give what the rest gives from the machine reached. Assumes nothing.
use borrow.Enum.Refused.{opened}
use Rattle.record_driver.proofs.Playing.{playing_none, played_all, playing_on}
use Rattle.recording.proofs.Reading.{found_lies, over_by}
use mathlib.Core.Path.{sym, ◌∙◌}
use native.Mathlib.Omega.{arith}
use Rattle.record_driver.proofs.run.Goals as goal

pub loop-direction-init : goal.loop-direction-init
loop-direction-init c = playing_none c.requires

pub shape_of-image-in_default : goal.shape_of-image-in_default
shape_of-image-in_default c = c.loop-direction.invariant.image

pub shape_of-receive-in_default : goal.shape_of-receive-in_default
shape_of-receive-in_default c = c.loop-direction.invariant.receive

pub shape_of-reply-in_default : goal.shape_of-reply-in_default
shape_of-reply-in_default c = c.loop-direction.invariant.reply

pub returns-in_default : goal.returns-in_default
returns-in_default c =
    let read = c.record_at-found in
    played_all c.loop-direction.invariant read.ensures (over_by read.result (opened c.in_default.in_default-own.keys2)) c.ended_by.ensures

pub call-st-requires : goal.call-st-requires
call-st-requires c =
    let lies = found_lies _ _ _ _ (sym c.record_at-found.ensures ∙ c.in-Is.is) in
    (c.loop-direction.invariant.ready, lies.order, lies.fits)

pub loop-direction-smaller : goal.loop-direction-smaller
loop-direction-smaller c =
    omega (
      arith,
      found_lies _ _ _ _ (sym c.record_at-found.ensures ∙ c.in-Is.is),
    )

pub loop-direction-preserved : goal.loop-direction-preserved
loop-direction-preserved c =
    let call = c.call-st in
    playing_on c.loop-direction.invariant
    (sym c.record_at-found.ensures ∙ c.in-Is.is) call.ensures call.auto.image
    call.auto.receive call.auto.reply
