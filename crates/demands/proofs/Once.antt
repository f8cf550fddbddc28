-- One outcome does what feeding promises, and no second one. Assumes nothing.
use mathlib.Core.List.{List, [], ◌++◌}
use mathlib.Core.Path.{◌≡◌, refl, sym, ap, subst, ◌∙◌}
use Prim.Native.Nat.{ℕ, ◌≤◌, ◌<◌}
use native.Mathlib.Omega.{arith}
use lib.ListN.{length, take, drop, take-append-drop, length-append, length-drop}
use lib.Seq.{length-take-le, take-append_seam}
use Rattle.profile.specs.declared.Profile.{Profile}
use Rattle.packet.specs.Frame.{longest_packet, front}
use Rattle.state.specs.declared.State.{State}
use Rattle.device_calls.specs.Calls.{Lent, buffers, feed_refusal, Refusal}
use Rattle.device_calls.specs.Ready.{Ready}
use Rattle.device_calls.proofs.Rows.{rows_ready}
use Rattle.device_steps.specs.Step.{machine_of}
use Rattle.device_steps.specs.Feed.{Delivery, feed_of}
use Rattle.device_steps.specs.Fits.{FitMachine}
use Rattle.device_steps.proofs.Delivered.{nothing}
use Rattle.device_steps.proofs.Kept.{feed_fits, machine_fits, held_short}
use Rattle.device.specs.declared.Fed.{Fed}
use Rattle.device.specs.Post.{FedBy, Feeds}
use Rattle.device.proofs.Turns.{feeds}
use Rattle.std.specs.Prelude.{Ok, Err}
use Rattle.demands.specs.Demand2.{SameOutcome, Outcome}

held_is : {r r' : Fed} → r ≡ r' → (rc : List ℕ) → take r.state.held rc ≡ take r'.state.held rc
held_is e rc = ap (λ (x : Fed). take x.state.held rc) e

-- feeding, for the same state and buffers at entry
module _ (d : Delivery) (input : List ℕ) (st : State) (before after after' : Lent) (r r' : Fed) where
  fed_once : (refusal : Refusal) → FedBy refusal d input st before after r → FedBy refusal d input st before after' r' → SameOutcome after after' r r'
  fed_once (Ok tt) a b =
      record {
        result = a.is ∙ sym b.is;
        image = a.image ∙ sym b.image;
        held = held_is a.is after.receive ∙ a.held ∙ sym (held_is b.is after'.receive ∙ b.held);
        reply = a.reply ∙ sym b.reply;
      }
  fed_once (Err row) a b =
      let same : after ≡ after' = a.lent ∙ sym b.lent in
      record {
        result = a.is ∙ sym b.is;
        image = ap (λ (l : Lent). l.image) same;
        held = held_is (a.is ∙ sym b.is) after.receive ∙ ap (λ (l : Lent). take r'.state.held l.receive) same;
        reply = ap (λ (l : Lent). l.reply) same;
      }

pub feeds_once : (p : Profile) (st : State) (input : List ℕ) (before after after' : Lent) (r r' : Fed)
    → Feeds p st input before after r → Feeds p st input before after' r' → SameOutcome after after' r r'
feeds_once p st input before after after' r r' f g =
    fed_once (feed_of p (machine_of st before) input) input st before after after' r r' (feed_refusal p st before) f.fed g.fed

-- an outcome: the held bytes stand at the front of the receive buffer, and behind them what stood there
module _ (p : Profile) (st : State) (input : List ℕ) (before : Lent) where
  abbrev d : Delivery
  d = feed_of p (machine_of st before) input

  abbrev placed : Lent
  placed = buffers d.machine.image (front d.machine.held before.receive) (front d.reply before.reply)

  idle : Ready p st before → length input ≡ 0 → front d.machine.held before.receive ≡ before.receive
  unfolding front feed_of
  idle ready e =
      let none : input ≡ [] = nothing input e in
      let k : length (take st.held before.receive) ≡ st.held = length-take-le st.held before.receive ready.fit.inside in
      ap (λ (bs : List ℕ). front (feed_of p (machine_of st before) bs).machine.held before.receive) none
      ∙ ap (λ (n : ℕ). take st.held before.receive ++ drop n before.receive) k
      ∙ take-append-drop st.held before.receive

  held : Ready p st before → take d.machine.state.held (front d.machine.held before.receive) ≡ d.machine.held
  unfolding front
  held ready =
      let f : FitMachine p d.machine = feed_fits p ready.profile (machine_of st before) input (machine_fits p st before ready.fit) in
      ap (λ (n : ℕ). take n (d.machine.held ++ drop (length d.machine.held) before.receive)) f.count
      ∙ take-append_seam d.machine.held (drop (length d.machine.held) before.receive)

  outcome : (refusal : Refusal) → feed_refusal p st before ≡ refusal → Outcome p st input before
  outcome (Ok tt) e =
      let ready : Ready p st before = rows_ready p st before e in
      record {
        after = placed;
        answer = record { refusal = Ok tt; state = d.machine.state; consumed = d.consumed; count = length d.reply };
        feeds =
            feeds
            (subst (λ (x : Refusal). FedBy x d input st before placed (record { refusal = Ok tt; state = d.machine.state; consumed = d.consumed; count = length d.reply }))
            (sym e) (record { is = refl; image = refl; held = held ready; reply = refl; idle = idle ready }));
      }
  outcome (Err row) e =
      record {
        after = before;
        answer = record { refusal = Err row; state = st; consumed = 0; count = 0 };
        feeds =
            feeds
            (subst (λ (x : Refusal). FedBy x d input st before before (record { refusal = Err row; state = st; consumed = 0; count = 0 })) (sym e)
            (record { is = refl; lent = refl }));
      }

  pub feeds_some : Outcome p st input before
  feeds_some = outcome (feed_refusal p st before) refl

  -- it leaves the receive buffer as long as it was
  outcome_room : (refusal : Refusal) (e : feed_refusal p st before ≡ refusal) → length (outcome refusal e).after.receive ≡ length before.receive
  unfolding outcome front
  outcome_room (Ok tt) e =
      let ready : Ready p st before = rows_ready p st before e in
      let f : FitMachine p d.machine = feed_fits p ready.profile (machine_of st before) input (machine_fits p st before ready.fit) in
      let few : length d.machine.held < longest_packet = held_short p d.machine f in
      let room : longest_packet ≤ length before.receive = ready.receive in
      rw (length-append, length-drop) (omega arith)
  outcome_room (Err row) e = refl

  pub feeds_room : length feeds_some.after.receive ≡ length before.receive
  unfolding feeds_some
  feeds_room = outcome_room (feed_refusal p st before) refl
