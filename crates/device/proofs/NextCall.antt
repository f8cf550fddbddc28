-- After an accepted feed the next call with the same buffers is accepted too: no line of its own brings refusal 5. Assumes nothing.
use mathlib.Core.List.{List, []}
use mathlib.Core.Path.{◌≡◌, refl, sym, ap, subst, ◌∙◌}
use Prim.Native.Nat.{ℕ, ◌<◌}
use native.Mathlib.Omega.{arith}
use lib.ListN.{length, take}
use Rattle.profile.specs.declared.Profile.{Profile}
use Rattle.profile.specs.Areas.{areas_of, total_of}
use Rattle.profile_rules.specs.Rules.{Accepted as AcceptedProfile}
use Rattle.packet.specs.Frame.{Roomy}
use Rattle.state.specs.declared.State.{State}
use Rattle.state.specs.State.{fresh_state}
use Rattle.state.specs.Fit.{Fit}
use Rattle.device.specs.declared.Fed.{Fed}
use Rattle.device_steps.specs.Step.{Machine, machine_of}
use Rattle.device_steps.specs.Feed.{Delivery, feed_of}
use Rattle.device_steps.specs.Fits.{FitMachine}
use Rattle.device_calls.specs.Calls.{Lent, feed_refusal}
use Rattle.device.specs.Post.{Ran}
use Rattle.device_calls.specs.Ready.{Ready}
use Rattle.device_steps.proofs.Kept.{fresh_fits, feed_fits, feed_length, machine_fits, state_fits, held_short}
use Rattle.std.specs.Prelude.{Ok}
use Rattle.device_calls.proofs.Rows.{ready_rows}

-- a machine that fits is a state that fits a receive buffer of at least 1,030 bytes that holds its bytes
fits_again : (p : Profile) (m : Machine) (rc : List ℕ) → FitMachine p m → Roomy rc → take m.state.held rc ≡ m.held → Fit p m.state rc
fits_again p m rc f h e =
    let k : length m.held < 1030 = held_short p m f in
    let c : m.state.held ≡ length m.held = f.count in
    state_fits p m rc f e (omega arith)

module _ (p : Profile) (before : Lent) (input : List ℕ) (st : State) (ready : Ready p st before) where
  -- what the feed leaves is what the next one asks; a lent slice keeps its length
  pub ready_again : (after : Lent) (r : Fed) → Ran (feed_of p (machine_of st before) input) input before after r
      → length after.receive ≡ length before.receive → length after.reply ≡ length before.reply → Ready p r.state after
  ready_again after r ran b c =
      let rc : List ℕ = after.receive in
      let d : Delivery = feed_of p (machine_of st before) input in
      let f : FitMachine p d.machine = feed_fits p ready.profile (machine_of st before) input (machine_fits p st before ready.fit) in
      let w : Roomy rc = rw b ready.receive in
      record {
        profile = ready.profile;
        image = ap length ran.image ∙ feed_length p (machine_of st before) input ∙ ready.image;
        receive = w;
        reply = rw c ready.reply;
        fit = subst (λ (s : State). Fit p s rc) (sym (ap (λ (x : Fed). x.state) ran.is)) (fits_again p d.machine rc f w ran.held);
      }

  pub accepted_again : (after : Lent) (r : Fed) → Ran (feed_of p (machine_of st before) input) input before after r
      → length after.receive ≡ length before.receive → length after.reply ≡ length before.reply → feed_refusal p r.state after ≡ Ok tt
  accepted_again after r ran b c = ready_rows p r.state after (ready_again after r ran b c)

-- a fresh state fits every receive buffer, so a feed behind a start or a reset is accepted
pub fresh_ready : (p : Profile) (l : Lent) → AcceptedProfile p → length l.image ≡ total_of (areas_of p) → Roomy l.receive → Roomy l.reply
    → Ready p (fresh_state p) l
unfolding fresh_state
fresh_ready p l a i w h =
    record {
      profile = a;
      image = i;
      receive = w;
      reply = h;
      fit = state_fits p (record { image = []; held = []; state = fresh_state p }) l.receive (fresh_fits p []) refl (omega arith);
    }
