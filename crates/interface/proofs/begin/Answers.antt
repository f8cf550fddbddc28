-- `interface::begin` meets its contract. The device's rows come first, then the room for the state. Assumes nothing.
use mathlib.Core.Bool.{not}
use mathlib.Core.Path.{ap}
use mathlib.Core.Path.{sym, ◌∙◌}
use lib.ListN.{length}
use borrow.Author.Tests.{not-true, not-false}
use Rattle.state.specs.State.{zero_state}
use Rattle.device_calls.proofs.Rows.{begun}
use Rattle.device_calls.specs.Calls.{started_at, Refusal}
use Rattle.device_calls.specs.declared.Row.TheVariants.{WrongState}
use Rattle.profile_bytes.specs.Profile.{profile_in}
use Rattle.interface.proofs.Refusals.{begin_refused, begin_no_room, begin_accepted}
use Rattle.std.specs.Prelude.{Err}
use Rattle.interface.proofs.begin.Goals as goal

pub returns-then-not-is_accepted : goal.returns-then-not-is_accepted
returns-then-not-is_accepted c =
    let profile-in = c.profile_in in
    let start = c.start-begun in
    let a = c.args in
    begin_refused a.profile.now (length a.image.now) a.room profile-in.result profile-in.ensures start.result start.ensures.is
    (sym c.is_accepted.ensures ∙ not-true _ (ap not c.if-not-is_accepted.true))

pub returns-then-room-ne-STATE_LENGTH : goal.returns-then-room-ne-STATE_LENGTH
returns-then-room-ne-STATE_LENGTH c =
    let profile-in = c.profile_in in
    let start = c.start-begun in
    let a = c.args in
    begun (λ (row : Refusal). started_at row (profile_in a.profile.now) zero_state) _ (Err WrongState) c.zero.result (begin_no_room a.profile.now
    (length a.image.now) a.room profile-in.result profile-in.ensures start.result start.ensures.is
    (sym c.is_accepted.ensures ∙ not-false _ (ap not c.if-not-is_accepted.false)) c.if-room-ne-STATE_LENGTH.true) c.zero.ensures

pub returns : goal.returns
returns c =
    let profile-in = c.profile_in in
    let start = c.start-begun in
    let a = c.args in
    begin_accepted a.profile.now (length a.image.now) a.room profile-in.result profile-in.ensures start.result start.ensures.is
    (sym c.is_accepted.ensures ∙ not-false _ (ap not c.if-not-is_accepted.false)) c.if-room-ne-STATE_LENGTH.false
