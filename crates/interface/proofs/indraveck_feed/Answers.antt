-- `interface::indraveck_feed` meets its contract. Bytes that are no state are refused as a start without room for one; others go to the device. Assumes nothing.
use mathlib.Core.Path.{sym, ◌∙◌}
use Rattle.state_bytes.proofs.StateRoundTrip.{found_length}
use Rattle.interface.proofs.Written.{fed_no_state, fed_both}
use Rattle.interface.specs.Post.{numbers}
use Rattle.interface.specs.Calls.{bytes}
use Rattle.interface.proofs.indraveck_feed.Goals as goal

pub feed_state-requires : goal.feed_state-requires
feed_state-requires c =
    found_length
    c.args.state.now
    _ (sym c.stage_in.ensures
    ∙ c.in-Some.is)

pub returns-in-None : goal.returns-in-None
returns-in-None c = let a = c.args in
    fed_no_state a.profile.now a.input.now (bytes a.image.now a.state.now a.receive.now a.reply.now)
    (sym c.stage_in.ensures ∙ c.in-None.is) c.begin.result c.begin.ensures c.number.result c.number.ensures

pub returns-in-Some : goal.returns-in-Some
returns-in-Some c =
    let profile-in = c.profile_in-p in
    let state-in = c.state_in-st in
    let a = c.args in
    let f = c.feed_state in
    fed_both a.profile.now a.input.now (bytes a.image.now a.state.now a.receive.now a.reply.now) profile-in.result
    profile-in.ensures _ (sym
    c.stage_in.ensures
    ∙ c.in-Some.is)
    state-in.result state-in.ensures (bytes f.new.image f.new.state f.new.receive f.new.reply)
    (numbers f.result f.new.consumed f.new.sent) f.ensures
