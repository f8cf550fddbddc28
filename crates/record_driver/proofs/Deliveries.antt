-- A delivery feed by feed: what the bytes so far have done, and what all of them leave. Assumes nothing.
use mathlib.Core.List.{List, []}
use mathlib.Core.Path.{◌≡◌, refl, sym, ap, subst, ◌∙◌}
use Prim.Native.Nat.{ℕ, zero, suc, ◌-◌, ◌≤◌, ◌<◌}
use native.Mathlib.Omega.{arith}
use lib.ListN.{length, take, drop, length-drop, drop_of_length-le}
use lib.Seq.{take-length}
use Rattle.profile.specs.declared.Profile.{Profile}
use Rattle.state.specs.declared.State.{State}
use Rattle.device_calls.specs.Calls.{Lent, Refusal}
use Rattle.device_calls.specs.Ready.{Ready}
use Rattle.device_calls.proofs.Rows.{ready_rows}
use Rattle.device_steps.specs.Step.{Machine, machine_of}
use Rattle.device_steps.specs.Feed.{Delivery, feed_of}
use Rattle.device_steps.proofs.Delivered.{consumed_most, consumed_all, consumed_some}
use Rattle.device.specs.declared.Fed.{Fed}
use Rattle.device.specs.Post.{Ran, FedBy, Feeds}
use Rattle.device.proofs.Turns.{machine_eq}
use Rattle.device.proofs.NextCall.{ready_again}
use Rattle.record_history.specs.History.{hearing, replies_over}
use Rattle.record_history.proofs.Cut.{hears_on, replies_on}
use Rattle.record_driver.specs.Stands.{Stands}
use Rattle.record_driver.proofs.Called.{stands_at}

-- what the bytes so far have done: the rest goes on from there
pub record Hearing (p : Profile) (l₀ : Lent) (bs : List ℕ) (st₀ : State) (l : Lent) (st : State) (rest : List ℕ) : Type 0 where
  pub ready : Ready p st l
  pub image : length l.image ≡ length l₀.image
  pub receive : length l.receive ≡ length l₀.receive
  pub reply : length l.reply ≡ length l₀.reply
  pub machine : hearing p (machine_of st₀ l₀) bs ≡ hearing p (machine_of st l) rest
  pub replies : replies_over p (machine_of st₀ l₀) bs l₀.reply ≡ replies_over p (machine_of st l) rest l.reply

-- before the first byte
pub hearing_none : {p : Profile} {l : Lent} {bs : List ℕ} {st : State} → Ready p st l → Hearing p l bs st l st bs
hearing_none r = record { ready = r; image = refl; receive = refl; reply = refl; machine = refl; replies = refl }

-- some byte of a delivery that has any is consumed
consumes : (p : Profile) (m : Machine) (bs : List ℕ) → 0 < length bs → 1 ≤ (feed_of p m bs).consumed
consumes p m bs h = by (length (feed_of p m bs).reply) refl
  where
    by : (n : ℕ) → length (feed_of p m bs).reply ≡ n → 1 ≤ (feed_of p m bs).consumed
    by zero e = let k : (feed_of p m bs).consumed ≡ length bs = consumed_all p m bs e in omega arith
    by (suc n) e = consumed_some p m bs (omega arith)

module _ {p : Profile} {l₀ : Lent} {bs : List ℕ} {st₀ : State} {l : Lent} {st : State} {rest : List ℕ} (t : Hearing p l₀ bs st₀ l st rest) where
  abbrev m : Machine
  m = machine_of st l

  -- no byte is left
  pub heard_all : length rest ≤ 0 → Stands p (hearing p (machine_of st₀ l₀) bs) (replies_over p (machine_of st₀ l₀) bs l₀.reply) st l
  unfolding hearing replies_over
  heard_all h =
      let none : rest ≡ [] = drop_of_length-le rest h in
      stands_at t.ready (t.machine ∙ ap (hearing p m) none) (t.replies ∙ ap (λ (x : List ℕ). replies_over p m x l.reply) none)

  -- the rest is fed, and accepted
  module _ (r : Fed) (after : Lent) (some : 0 < length rest) (fed : Feeds p st rest l after r) where
    abbrev d : Delivery
    d = feed_of p m rest

    ran : Ran d rest l after r
    ran = subst (λ (x : Refusal). FedBy x d rest st l after r) (ready_rows p st l t.ready) fed.fed

    state : r.state ≡ d.machine.state
    state = ap (λ (x : Fed). x.state) ran.is

    consumed : r.consumed ≡ d.consumed
    consumed = ap (λ (x : Fed). x.consumed) ran.is

    -- the feed goes on, and not past the end
    pub goes_on : 1 ≤ r.consumed
    goes_on = rw consumed (consumes p m rest some)

    pub stays : r.consumed ≤ length rest
    stays = omega (arith, consumed_most p m rest, consumed)

    -- what the feed leaves, as a part
    abbrev left_over : List ℕ
    left_over = take (length rest - r.consumed) (drop r.consumed rest)

    left_is : drop d.consumed rest ≡ left_over
    left_is = ap (λ (n : ℕ). drop n rest) (sym consumed) ∙ sym (ap (λ (n : ℕ). take n (drop r.consumed rest)) (sym (length-drop r.consumed rest)) ∙ take-length (drop r.consumed rest))

    pub fewer : length left_over < length rest
    fewer = rw (sym left_is, sym consumed) (omega (arith, goes_on, stays, length-drop r.consumed rest))

    pub hearing_on : length after.image ≡ length l.image → length after.receive ≡ length l.receive → length after.reply ≡ length l.reply
        → Hearing p l₀ bs st₀ after r.state left_over
    hearing_on a b c =
        let next : d.machine ≡ machine_of r.state after = sym (machine_eq (machine_of r.state after) d.machine ran.image (ap (λ (s : State). take s.held after.receive) state ∙ ran.held) state) in
        record {
          ready = ready_again p l rest st t.ready after r ran b c;
          image = a ∙ t.image;
          receive = b ∙ t.receive;
          reply = c ∙ t.reply;
          machine = t.machine ∙ hears_on p m rest ∙ rw (next, left_is) refl;
          replies = t.replies ∙ replies_on p m rest l.reply ∙ rw (next, left_is, ran.reply) refl;
        }
