-- What a call tells is what there is to tell: of an accepted one what is seen of the device, of a refused one that nothing happened. Assumes nothing.
use mathlib.Core.List.{List, []}
use mathlib.Core.Path.{◌≡◌, ap, ◌∙◌}
use Prim.Native.Nat.{ℕ}
use lib.ListN.{length, take}
use Rattle.profile.specs.declared.Profile.{Profile}
use Rattle.state.specs.declared.State.{State}
use Rattle.state.specs.State.{fresh_state}
use Rattle.device_calls.specs.declared.Row.{Row}
use Rattle.device_calls.specs.declared.Started.{Started}
use Rattle.device_calls.specs.Calls.{Lent, started_by, feed_refusal, start_refusal, Refusal}
use Rattle.device_steps.specs.Feed.{Delivery, feed_of}
use Rattle.device_steps.specs.Step.{machine_of}
use Rattle.device.specs.declared.Fed.{Fed}
use Rattle.device.specs.Post.{Ran, Unfed, FedBy}
use Rattle.record_history.specs.History.{deliver, again}
use Rattle.stranger.specs.Seen.{seen}
use Rattle.stranger.proofs.Running.{front_there}
use Rattle.demands.specs.Session.{Kept, lent_by, machine_in, Turn, feeding, resetting, mistaking, Honest}
use Rattle.std.specs.Prelude.{Ok, Err}
use Rattle.demands.specs.Stranger.{told_by, seen_for, to_tell}

-- a feed with the caller's own profile and state
module _ (p : Profile) (k : Kept) (input reply : List ℕ) (after : Lent) (r : Fed) where
  abbrev d : Delivery
  d = feed_of p (machine_in k) input

  accepted_due : Ran d input (lent_by k reply) after r → told_by k (feeding input reply after r) ≡ record { refusal = Ok tt; seen = seen d }
  accepted_due ran =
      let is : r ≡ record { refusal = Ok tt; state = d.machine.state; consumed = d.consumed; count = length d.reply } = ran.is in
      let held : take r.state.held after.receive ≡ d.machine.held = ap (λ (x : Fed). take x.state.held after.receive) is ∙ ran.held in
      let told : take r.count after.reply ≡ d.reply =
      ap (λ (x : Fed). take x.count after.reply) is ∙ ap (take (length d.reply)) ran.reply ∙ front_there d.reply reply in
      cc

  refused_due : (row : Row) → Unfed row k.state (lent_by k reply) after r
      → told_by k (feeding input reply after r) ≡ record { refusal = Err row; seen = seen_for (Err row) p (machine_in k) (deliver input) }
  refused_due row un =
      let is : r ≡ record { refusal = Err row; state = k.state; consumed = 0; count = 0 } = un.is in
      let held : take r.state.held after.receive ≡ take k.state.held k.receive =
      ap (λ (x : Fed). take x.state.held after.receive) is ∙ ap (λ (l : Lent). take k.state.held l.receive) un.lent in
      let told : take r.count after.reply ≡ [] = ap (λ (x : Fed). take x.count after.reply) is in
      cc

  by_refusal : (x : Refusal) → FedBy x d input k.state (lent_by k reply) after r
      → told_by k (feeding input reply after r) ≡ record { refusal = x; seen = seen_for x p (machine_in k) (deliver input) }
  by_refusal (Ok tt) f = accepted_due f
  by_refusal (Err row) f = refused_due row f

-- a reset
module _ (p : Profile) (k : Kept) (r : Started) where
  reset_due : (x : Refusal) → r ≡ started_by x p k.state
      → told_by k (resetting r) ≡ record { refusal = x; seen = seen_for x p (machine_in k) again }
  unfolding fresh_state
  reset_due (Ok tt) e = ap (λ (s : Started). told_by k (resetting s)) e
  reset_due (Err row) e = ap (λ (s : Started). told_by k (resetting s)) e

-- a mistake, which was refused
module _ (p other : Profile) (st : State) (k : Kept) (input reply : List ℕ) (after : Lent) (r : Fed) where
  mistake_due : (x : Refusal) → FedBy x (feed_of other (machine_of st (lent_by k reply)) input) input st (lent_by k reply) after r → (r.refusal ≡ Ok tt → ⊥)
      → told_by k (mistaking other st input reply after r) ≡ record { refusal = x; seen = seen_for x p (machine_in k) (deliver input) }
  mistake_due (Ok tt) f n = absurd (n (ap (λ (y : Fed). y.refusal) f.is))
  mistake_due (Err row) f n =
      let is : r ≡ record { refusal = Err row; state = st; consumed = 0; count = 0 } = f.is in
      let held : take k.state.held after.receive ≡ take k.state.held k.receive =
      ap (λ (l : Lent). take k.state.held l.receive) f.lent in
      let told : take r.count after.reply ≡ [] = ap (λ (x : Fed). take x.count after.reply) is in
      cc

pub told_due : (p : Profile) (k : Kept) (t : Turn) → Honest p k t → told_by k t ≡ to_tell p k t
told_due p k (feeding input reply after r) f = by_refusal p k input reply after r (feed_refusal p k.state (lent_by k reply)) f.fed
told_due p k (resetting r) s = reset_due p k r (start_refusal p (length k.image)) s.is
told_due p k (mistaking other st input reply after r) f =
    mistake_due p other st k input reply after r (feed_refusal other st (lent_by k reply)) f.0.fed f.1
