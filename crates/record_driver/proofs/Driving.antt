-- A script from the start on: what a refusal leaves, and what driving it leaves. Assumes nothing.
use mathlib.Core.Bool.{Bool, true, false, not}
use mathlib.Core.List.{List, []}
use mathlib.Core.Path.{◌≡◌, refl, sym, ap, subst, ◌∙◌}
use Prim.Native.Nat.{ℕ}
use lib.ListN.{length}
use borrow.Author.Tests.{not-true, not-false}
use Rattle.profile.specs.declared.Profile.{Profile}
use Rattle.packet.specs.Frame.{front}
use Rattle.packet.proofs.Laws.{impossible}
use Rattle.state.specs.declared.State.{State}
use Rattle.state.specs.State.{fresh_state, zero_state}
use Rattle.device_calls.specs.declared.Started.{Started}
use Rattle.device_calls.specs.Calls.{Lent, is_accepted, start_rows, buffer_rows, start_refusal, feed_refusal, started_at, started_by, Refusal}
use Rattle.device_calls.specs.Ready.{Ready}
use Rattle.device_calls.proofs.Rows.{is_accepted_lem, feed_rows_lem, stops, rows_ready}
use Rattle.device_steps.specs.Step.{machine_of}
use Rattle.device_steps.specs.Feed.{feed_of}
use Rattle.device.specs.declared.Fed.{Fed}
use Rattle.device.specs.Post.{FedBy, Feeds}
use Rattle.recording.specs.Recording.{records_of, unread}
use Rattle.record_history.specs.History.{fresh_of, calls_of}
use Rattle.record_history.proofs.Replayed.{replayed}
use Rattle.record_driver.specs.declared.Driven.{Driven}
use Rattle.record_driver.specs.Post.{DroveOn, Drove, DrivenBy, Drives}
use Rattle.std.specs.Prelude.{Ok, Err}
use Rattle.record_driver.proofs.Called.{fresh_machine}

-- a delivery of no bytes tells the refusal, and leaves all as it was
record Tried (refusal : Refusal) (before after : Lent) (r : Fed) : Type 0 where
  told : r.refusal ≡ refusal
  lent : after ≡ before

tried : (refusal : Refusal) (p : Profile) (st : State) (before after : Lent) (r : Fed) → FedBy refusal (feed_of p (machine_of st before) []) [] st before after r
    → Tried refusal before after r
unfolding feed_of front
tried (Ok tt) p st before after r f =
    record {
      told = ap (λ (x : Fed). x.refusal) f.is;
      lent =
          ap (λ (x : List ℕ). record { image = x; receive = after.receive; reply = after.reply }) f.image
          ∙ ap (λ (x : List ℕ). record { image = before.image; receive = x; reply = after.reply }) (f.idle refl)
          ∙ ap (λ (x : List ℕ). record { image = before.image; receive = before.receive; reply = x }) f.reply;
    }
tried (Err row) p st before after r f = record { told = ap (λ (x : Fed). x.refusal) f.is; lent = f.lent }

-- a refused script
undriven : (refusal : Refusal) (p : Profile) (script : List ℕ) (before after : Lent) (r : Driven) → is_accepted refusal ≡ false
    → r ≡ record { refusal = refusal; state = started_at (start_refusal p (length before.image)) p zero_state; read = unread } → after ≡ before
    → DrivenBy refusal p script before after r
undriven (Ok tt) p script before after r h e l = impossible (cc)
undriven (Err row) p script before after r h e l = record { is = e; lent = l }

-- what starting answered, and whether it was accepted
module _ (p : Profile) (l : Lent) {begun : Started} {t : Bool} (e : begun ≡ started_by (start_refusal p (length l.image)) p zero_state)
    (a : t ≡ is_accepted begun.refusal) where
  -- the refusals: of starting, and of feeding a fresh state
  abbrev first : Refusal
  first = start_refusal p (length l.image)

  abbrev row : Refusal
  row = feed_refusal p (fresh_state p) l

  begins : t ≡ is_accepted first
  begins = a ∙ ap (λ (x : Started). is_accepted x.refusal) e

  state : begun.state ≡ started_at first p zero_state
  state = ap (λ (x : Started). x.state) e

  -- a refused start
  pub unstarted : (script : List ℕ) {r : Driven} → not t ≡ true → r ≡ record { refusal = begun.refusal; state = begun.state; read = unread }
      → Drives p script l l r
  unstarted script {r} h i =
      let bad : is_accepted first ≡ false = sym begins ∙ not-true t h in
      let same : row ≡ first =
      feed_rows_lem p (fresh_state p) l ∙ stops (start_rows p (length l.image)) (buffer_rows p (fresh_state p) l.receive (length l.reply)) bad in
      subst (λ (x : Refusal). DrivenBy x p script l l r) (sym same)
      (undriven first p script l l r bad (i ∙ ap (λ (x : Started). record { refusal = x.refusal; state = x.state; read = unread }) e) refl)

  -- a start, and a delivery of no bytes
  module _ (y : not t ≡ false) (fed : Fed) (l' : Lent) (f : Feeds p begun.state [] l l' fed) {u : Bool} (b : u ≡ is_accepted fed.refusal) where
    fresh : begun.state ≡ fresh_state p
    fresh = state ∙ ap (λ (x : Refusal). started_at x p zero_state) (is_accepted_lem first (sym begins ∙ not-false t y))

    attempt : Tried row l l' fed
    attempt = subst (λ (s : State). Tried (feed_refusal p s l) l l' fed) fresh (tried _ p begun.state l l' fed f.fed)

    fed_told : u ≡ is_accepted row
    fed_told = b ∙ ap is_accepted attempt.told

    -- refused
    pub unfed : (script : List ℕ) {r : Driven} → not u ≡ true → r ≡ record { refusal = fed.refusal; state = begun.state; read = unread }
        → Drives p script l l' r
    unfed script {r} h i =
        undriven row p script l l' r (sym fed_told ∙ not-true u h)
        (i
        ∙ ap (λ (x : Refusal). record { refusal = x; state = begun.state; read = unread }) attempt.told
        ∙ ap (λ (s : State). record { refusal = row; state = s; read = unread }) state)
        attempt.lent

    -- accepted
    module _ (z : not u ≡ false) where
      accepted : row ≡ Ok tt
      accepted = is_accepted_lem row (sym fed_told ∙ not-false u z)

      pub begun_ready : Ready p begun.state l'
      begun_ready = rw (fresh, attempt.lent) (rows_ready p (fresh_state p) l accepted)

      pub driven : {script : List ℕ} {r : Driven} {after : Lent} → DroveOn p (machine_of begun.state l') script l' after r → Drives p script l after r
      driven {script} {r} {after} on = subst (λ (x : Refusal). DrivenBy x p script l after r) (sym accepted) (drove (rw (fresh, attempt.lent, fresh_machine p l) at on))
        where
          drove : DroveOn p (fresh_of p l.image) script l after r → Drove p script l after r
          drove q =
              record {
                refusal = q.refusal;
                image = q.stands.image ∙ replayed p l.image (calls_of (records_of script));
                machine = q.stands.image;
                state = q.stands.state;
                held = q.stands.held;
                reply = q.stands.reply;
                read = q.read;
              }
