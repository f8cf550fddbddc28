-- Running code: from what `feed` promises, two calls with buffers that are alike answer alike and leave buffers that are alike. Assumes nothing.
use mathlib.Core.Bool.{true}
use mathlib.Core.List.{List}
use mathlib.Core.Path.{◌≡◌, refl, sym, ap, subst, ◌∙◌}
use Prim.Native.Nat.{ℕ, ◌+◌, ◌-◌}
use lib.ListN.{length, take, drop, length-append, length-drop}
use lib.Seq.{take-append_seam}
use Rattle.profile.specs.declared.Profile.{Profile}
use Rattle.packet.specs.Frame.{front}
use Rattle.state.specs.declared.State.{State}
use Rattle.device_calls.specs.declared.Row.{Row}
use Rattle.device_calls.specs.Calls.{Lent, feed_refusal, Refusal}
use Rattle.device_calls.proofs.Rows.{refused_alike}
use Rattle.device_steps.specs.Step.{machine_of}
use Rattle.device_steps.specs.Feed.{Delivery, feed_of}
use Rattle.device.specs.declared.Fed.{Fed}
use Rattle.device.specs.Post.{Ran, Unfed, FedBy, Feeds}
use Rattle.stranger.specs.Alike.{is_shut, SameStored}
use Rattle.stranger.specs.Seen.{SameDelivery}
use Rattle.stranger.specs.Running.{AlikeLent, SameFeed}
use Rattle.std.specs.Prelude.{Ok, Err}
use Rattle.stranger.proofs.Calls.{feed_alike}

-- the answer of an accepted feed
abbrev ran_as : Delivery → Fed
ran_as d = record { refusal = Ok tt; state = d.machine.state; consumed = d.consumed; count = length d.reply }

ran_alike : {p : Profile} {d d' : Delivery} → SameDelivery p d d' → ran_as d ≡ ran_as d'
ran_alike {d = d} {d' = d'} s =
    let reply : d.reply ≡ d'.reply = s.reply in
    let consumed : d.consumed ≡ d'.consumed = s.consumed in
    let state : d.machine.state ≡ d'.machine.state = s.machine.state in
    cc

stored_as : {p : Profile} {image image' is is' : List ℕ} → image ≡ is → image' ≡ is' → SameStored p is is' → SameStored p image image'
stored_as {p} {image} {image'} {is} {is'} e f s =
    subst (λ (x : List ℕ). SameStored p x image') (sym e) (subst (SameStored p is) (sym f) s)

-- a reply at the front of a buffer: it is what is found there, and how long the buffer then is
pub front_there : (reply before : List ℕ) → take (length reply) (front reply before) ≡ reply
unfolding front
front_there reply before = take-append_seam reply (drop (length reply) before)

front_size : (reply before : List ℕ) → length (front reply before) ≡ length reply + (length before - length reply)
unfolding front
front_size reply before = length-append reply (drop (length reply) before) ∙ ap (λ (n : ℕ). length reply + n) (length-drop (length reply) before)

fronts_alike : (reply reply' before before' : List ℕ) → reply ≡ reply' → length before ≡ length before'
    → length (front reply before) ≡ length (front reply' before')
fronts_alike reply reply' before before' e f =
    front_size reply before
    ∙ ap (λ (x : List ℕ). length x + (length before - length x)) e
    ∙ ap (λ (n : ℕ). length reply' + (n - length reply')) f
    ∙ sym (front_size reply' before')

-- what an accepted feed leaves in its buffers, for callers in any language
pub record Left (d : Delivery) (before after : Lent) : Type 0 where
  pub image : after.image ≡ d.machine.image
  pub held : take d.machine.state.held after.receive ≡ d.machine.held
  pub reply : after.reply ≡ front d.reply before.reply

module _ {p : Profile} {d d' : Delivery} {l l' after after' : Lent} (s : SameDelivery p d d') (x : Left d l after) (y : Left d' l' after') where
  pub replies_alike : take (length d.reply) after.reply ≡ take (length d'.reply) after'.reply
  replies_alike =
      ap (take (length d.reply)) x.reply
      ∙ front_there d.reply l.reply
      ∙ s.reply
      ∙ sym (front_there d'.reply l'.reply)
      ∙ sym (ap (take (length d'.reply)) y.reply)

  pub left_alike : length after.receive ≡ length after'.receive → length l.reply ≡ length l'.reply
      → AlikeLent p d.machine.state after after'
  left_alike receive reply =
      record {
        machine =
            record {
              state = refl;
              held = x.held ∙ s.machine.held ∙ sym y.held ∙ sym (ap (λ (st : State). take st.held after'.receive) s.machine.state);
              stored = stored_as x.image y.image s.machine.stored;
            };
        receive = receive;
        reply = ap length x.reply ∙ fronts_alike d.reply d'.reply l.reply l'.reply s.reply reply ∙ sym (ap length y.reply);
      }

module _ (p : Profile) (st : State) (input : List ℕ) (before before' after after' : Lent) (r r' : Fed) where
  abbrev d : Delivery
  d = feed_of p (machine_of st before) input

  abbrev d' : Delivery
  d' = feed_of p (machine_of st before') input

  -- accepted; a lent slice keeps its length
  rans_alike : AlikeLent p st before before' → is_shut st.stage ≡ true
      → length after.receive ≡ length before.receive → length after'.receive ≡ length before'.receive
      → Ran d input before after r → Ran d' input before' after' r' → SameFeed p after after' r r'
  rans_alike a h kept kept' x y =
      let s : SameDelivery p d d' = feed_alike p (machine_of st before) (machine_of st before') input a.machine h in
      let left : Left d before after = record { image = x.image; held = x.held; reply = x.reply } in
      let left' : Left d' before' after' = record { image = y.image; held = y.held; reply = y.reply } in
      record {
        result = x.is ∙ ran_alike s ∙ sym y.is;
        reply =
            ap (λ (f : Fed). take f.count after.reply) x.is
            ∙ replies_alike s left left'
            ∙ sym (ap (λ (f : Fed). take f.count after'.reply) y.is);
        lent = subst (λ (f : Fed). AlikeLent p f.state after after') (sym x.is) (left_alike s left left' (kept ∙ a.receive ∙ sym kept') a.reply);
      }

  -- refused: everything stays
  unfeds_alike : AlikeLent p st before before' → (row : Row) → Unfed row st before after r → Unfed row st before' after' r' → SameFeed p after after' r r'
  unfeds_alike a row x y =
      record {
        result = x.is ∙ sym y.is;
        reply = ap (λ (f : Fed). take f.count after.reply) x.is ∙ sym (ap (λ (f : Fed). take f.count after'.reply) y.is);
        lent =
            subst (λ (f : Fed). AlikeLent p f.state after after') (sym x.is)
            (subst (λ (l : Lent). AlikeLent p st l after') (sym x.lent) (subst (AlikeLent p st before) (sym y.lent) a));
      }

  pub feeds_alike : AlikeLent p st before before' → is_shut st.stage ≡ true
      → length after.receive ≡ length before.receive → length after'.receive ≡ length before'.receive
      → Feeds p st input before after r → Feeds p st input before' after' r' → SameFeed p after after' r r'
  feeds_alike a h kept kept' f f' =
      by_refusal (feed_refusal p st before) f.fed
      (subst (λ (x : Refusal). FedBy x d' input st before' after' r')
      (sym (refused_alike p st before before' a.machine.stored.size a.machine.held a.receive a.reply)) f'.fed)
    where
      by_refusal : (x : Refusal) → FedBy x d input st before after r → FedBy x d' input st before' after' r' → SameFeed p after after' r r'
      by_refusal (Ok tt) x y = rans_alike a h kept kept' x y
      by_refusal (Err row) x y = unfeds_alike a row x y
