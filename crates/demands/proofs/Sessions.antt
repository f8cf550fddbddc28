-- Calls and the history that they are: what is kept is the machine after it, and the packets that come back are the replies in its record.
-- Assumes nothing.
use mathlib.Core.Bool.{Bool, true, false, cond}
use mathlib.Core.List.{List, [], ◌∷◌, ◌++◌, append-nil}
use mathlib.Core.Logic.{⊎_elim}
use mathlib.Core.Path.{◌≡◌, refl, sym, ap, ◌∙◌}
use Prim.Native.Nat.{ℕ, suc, ◌+◌, ◌≤◌}
use native.Mathlib.Numerals.{add-one}
use native.Mathlib.Omega.{arith}
use lib.ListN.{length, take, drop}
use lib.Seq.{take-length, take-append_seam}
use Rattle.profile.specs.declared.Profile.{Profile}
use Rattle.packet.specs.Packet.{good}
use Rattle.packet.specs.Frame.{front}
use Rattle.state.specs.declared.State.{State}
use Rattle.state.specs.State.{fresh_state}
use Rattle.device_calls.specs.declared.Row.{Row}
use Rattle.device_calls.specs.declared.Started.{Started}
use Rattle.device_calls.specs.Calls.{Lent, Starts, Refusal}
use Rattle.device_steps.specs.Step.{Machine, step_of}
use Rattle.device_steps.specs.Feed.{Delivery, feed_of}
use Rattle.device_steps.specs.Records.{Brings}
use Rattle.device_steps.proofs.Delivered.{by_reply}
use Rattle.device_steps.proofs.Replies.{brings_or}
use Rattle.device.specs.declared.Fed.{Fed}
use Rattle.device.specs.Post.{Ran, Unfed, Feeds}
use Rattle.device.proofs.Turns.{machine_eq}
use Rattle.record_exchange.specs.Line.{Entry, exchange, restart}
use Rattle.record_history.specs.History.{deliver, hearing, machine_after, entries_at, heard_record, record_of}
use Rattle.record_history.proofs.Cut.{feed_hears}
use Rattle.record_history.proofs.Recorded.{unanswered_entry, entry_asked, entry_unasked, record_continued, machine_continued, delivery_record}
use Rattle.demands.specs.Line.{IsReply, packets_in, answers_in}
use Rattle.demands.specs.Session.{Kept, lent_by, machine_in, Turn, feeding, resetting, mistaking, Honest, kept_by, kept_after, AllHonest, reset_in, calls_in, history_of, reply_of, got_by, got_in}
use Rattle.demands.proofs.Rows.{feed_ran, feed_unfed, start_keeps, start_fresh}
use Rattle.std.specs.Prelude.{Ok, Err}
use Rattle.demands.proofs.Lines.{good_least, answered_exactly}

-- lists of replies, one after the other
packets_append : (a b : List (List ℕ)) → packets_in (a ++ b) ≡ packets_in a ++ packets_in b
unfolding packets_in
packets_append [] b = refl
packets_append (reply ∷ a) b = by (good reply) (packets_append a b)
  where
    by : (t : Bool) → packets_in (a ++ b) ≡ packets_in a ++ packets_in b
        → cond t (reply ∷ packets_in (a ++ b)) (packets_in (a ++ b)) ≡ cond t (reply ∷ packets_in a) (packets_in a) ++ packets_in b
    by true e = ap (λ (l : List (List ℕ)). reply ∷ l) e
    by false e = e

answers_append : (a b : List Entry) → answers_in (a ++ b) ≡ answers_in a ++ answers_in b
unfolding answers_in
answers_append [] b = refl
answers_append (exchange q reply ∷ a) b = ap (λ (l : List (List ℕ)). reply ∷ l) (answers_append a b)
answers_append (restart ∷ a) b = answers_append a b

-- a reply, where there is one
abbrev sent : List ℕ → List (List ℕ)
sent reply = reply_of (length reply) reply

-- the reply that stands at a buffer's front
got_front : (reply buffer : List ℕ) → reply_of (length reply) (front reply buffer) ≡ sent reply
unfolding front
got_front [] buffer = refl
got_front (x ∷ reply) buffer =
    ap (λ (l : List ℕ). l ∷ []) (take-append_seam (x ∷ reply) (drop (suc (length reply)) buffer) ∙ sym (take-length (x ∷ reply)))

-- it is a packet or none
sent_packet : (reply : List ℕ) → IsReply reply → packets_in (sent reply) ≡ reply ∷ []
unfolding packets_in
sent_packet [] g = let least : 6 ≤ 0 = good_least [] g in absurd (omega arith)
sent_packet (x ∷ reply) g = rw (take-length (x ∷ reply), g) refl

sent_other : (reply : List ℕ) → (IsReply reply → ⊥) → packets_in (sent reply) ≡ []
unfolding packets_in
sent_other [] n = refl
sent_other (x ∷ reply) n = rw (take-length (x ∷ reply), bad (good (x ∷ reply)) n) refl
  where
    bad : (t : Bool) → (t ≡ true → ⊥) → t ≡ false
    bad true h = absurd (h refl)
    bad false h = refl

-- a byte's reply is a packet exactly where the byte leaves an entry
byte_answers : (p : Profile) (m : Machine) (b : ℕ) → packets_in (sent (step_of p m b).reply) ≡ answers_in (entries_at p m b)
unfolding answers_in
byte_answers p m b =
    ⊎_elim
    (λ (h : Brings m b). sent_packet (step_of p m b).reply ((answered_exactly p m b).0 h) ∙ sym (ap answers_in (entry_asked p m b h)))
    (λ (n : Brings m b → ⊥). sent_other (step_of p m b).reply (λ g. n ((answered_exactly p m b).1 g)) ∙ sym (ap answers_in (entry_unasked p m b n)))
    (brings_or m b)

-- a feed's reply is a packet exactly where the bytes that it consumed leave an entry
feed_answers : (p : Profile) (m : Machine) (bs : List ℕ)
    → packets_in (sent (feed_of p m bs).reply) ≡ answers_in (heard_record p m (take (feed_of p m bs).consumed bs))
unfolding packets_in answers_in heard_record feed_of
feed_answers p m [] = refl
feed_answers p m (b ∷ bs) =
    let s : Machine = (step_of p m b).machine in
    let n : ℕ = (feed_of p s bs).consumed in
    let k : n + 1 ≡ suc n = add-one n in
    by_reply p m b bs (λ (d : Delivery). packets_in (sent d.reply) ≡ answers_in (heard_record p m (take d.consumed (b ∷ bs))))
    (λ quiet.
    feed_answers p s bs
    ∙ sym
    (ap (λ (i : ℕ). answers_in (heard_record p m (take i (b ∷ bs)))) k
    ∙ ap (λ (es : List Entry). answers_in (es ++ heard_record p s (take n bs))) (unanswered_entry p m b quiet)))
    (λ answered. byte_answers p m b ∙ sym (ap answers_in (append-nil (entries_at p m b))))

-- what a call does to the machine that is kept, and what comes back, is what its part of the history says
pub record Goes (p : Profile) (k : Kept) (t : Turn) : Type 0 where
  pub machine : machine_in (kept_by k t) ≡ machine_after p (machine_in k) (calls_in t)
  pub got : packets_in (got_by t) ≡ answers_in (record_of p (machine_in k) (calls_in t))

module _ (p : Profile) (k : Kept) (input reply : List ℕ) (after : Lent) (r : Fed) (f : Feeds p k.state input (lent_by k reply) after r) where
  abbrev m : Machine
  m = machine_in k

  abbrev d : Delivery
  d = feed_of p m input

  accepted_goes : r.refusal ≡ Ok tt → Goes p k (feeding input reply after r)
  unfolding machine_after
  accepted_goes e =
      let ran : Ran d input (lent_by k reply) after r = feed_ran f e in
      let state : r.state ≡ d.machine.state = ap (λ (x : Fed). x.state) ran.is in
      let consumed : r.consumed ≡ d.consumed = ap (λ (x : Fed). x.consumed) ran.is in
      let count : r.count ≡ length d.reply = ap (λ (x : Fed). x.count) ran.is in
      record {
        machine =
            machine_eq _ _ ran.image (ap (λ (s : State). take s.held after.receive) state ∙ ran.held) state
            ∙ feed_hears p m input
            ∙ ap (λ (n : ℕ). hearing p m (take n input)) (sym consumed);
        got =
            ap packets_in (ap (λ (n : ℕ). reply_of n after.reply) count ∙ ap (reply_of (length d.reply)) ran.reply ∙ got_front d.reply reply)
            ∙ feed_answers p m input
            ∙ ap (λ (n : ℕ). answers_in (heard_record p m (take n input))) (sym consumed)
            ∙ ap answers_in (sym (delivery_record p m (take r.consumed input)));
      }

  refused_goes : (row : Row) → r.refusal ≡ Err row → Goes p k (feeding input reply after r)
  unfolding machine_after hearing packets_in answers_in record_of heard_record
  refused_goes row e =
      let un : Unfed row k.state (lent_by k reply) after r = feed_unfed f row e in
      let state : r.state ≡ k.state = ap (λ (x : Fed). x.state) un.is in
      let consumed : r.consumed ≡ 0 = ap (λ (x : Fed). x.consumed) un.is in
      let count : r.count ≡ 0 = ap (λ (x : Fed). x.count) un.is in
      record {
        machine =
            machine_eq _ _ (ap (λ (l : Lent). l.image) un.lent)
            (ap (λ (s : State). take s.held after.receive) state ∙ ap (λ (l : Lent). take k.state.held l.receive) un.lent) state
            ∙ ap (λ (n : ℕ). hearing p m (take n input)) (sym consumed);
        got =
            ap (λ (n : ℕ). packets_in (reply_of n after.reply)) count
            ∙ ap (λ (n : ℕ). answers_in (record_of p m (deliver (take n input) ∷ []))) (sym consumed);
      }

  by_refusal : (x : Refusal) → r.refusal ≡ x → Goes p k (feeding input reply after r)
  by_refusal (Ok tt) e = accepted_goes e
  by_refusal (Err row) e = refused_goes row e

-- a reset
module _ (p : Profile) (k : Kept) (r : Started) (s : Starts p (length k.image) k.state r) where
  reset_goes : (x : Refusal) → r.refusal ≡ x → Goes p k (resetting r)
  unfolding machine_after packets_in answers_in record_of fresh_state
  reset_goes (Ok tt) e =
      let state : r.state ≡ fresh_state p = start_fresh s e in
      record {
        machine =
            ap (λ (st : State). record { image = k.image; held = take st.held k.receive; state = st }) state
            ∙ ap (λ (x : Refusal). machine_after p (machine_in k) (reset_in x)) (sym e);
        got = ap (λ (x : Refusal). answers_in (record_of p (machine_in k) (reset_in x))) (sym e);
      }
  reset_goes (Err row) e =
      let state : r.state ≡ k.state = start_keeps s row e in
      record {
        machine =
            ap (λ (st : State). record { image = k.image; held = take st.held k.receive; state = st }) state
            ∙ ap (λ (x : Refusal). machine_after p (machine_in k) (reset_in x)) (sym e);
        got = ap (λ (x : Refusal). answers_in (record_of p (machine_in k) (reset_in x))) (sym e);
      }

-- a mistake that was refused
module _ (p other : Profile) (st : State) (k : Kept) (input reply : List ℕ) (after : Lent) (r : Fed) (f : Feeds other st input (lent_by k reply) after r) where
  mistake_goes : (x : Refusal) → r.refusal ≡ x → (r.refusal ≡ Ok tt → ⊥) → Goes p k (mistaking other st input reply after r)
  unfolding machine_after packets_in answers_in record_of
  mistake_goes (Ok tt) e n = absurd (n e)
  mistake_goes (Err row) e n =
      let un : Unfed row st (lent_by k reply) after r = feed_unfed f row e in
      let count : r.count ≡ 0 = ap (λ (x : Fed). x.count) un.is in
      record {
        machine = ap (λ (l : Lent). record { image = l.image; held = take k.state.held l.receive; state = k.state }) un.lent;
        got = ap (λ (n : ℕ). packets_in (reply_of n after.reply)) count;
      }

turn_goes : (p : Profile) (k : Kept) (t : Turn) → Honest p k t → Goes p k t
turn_goes p k (feeding input reply after r) f = by_refusal p k input reply after r f r.refusal refl
turn_goes p k (resetting r) s = reset_goes p k r s r.refusal refl
turn_goes p k (mistaking other st input reply after r) f = mistake_goes p other st k input reply after r f.0 r.refusal refl f.1

-- over all calls
pub calls_history : (p : Profile) (k : Kept) (turns : List Turn) → AllHonest p k turns → machine_in (kept_after k turns) ≡ machine_after p (machine_in k) (history_of turns)
unfolding kept_after AllHonest history_of machine_after
calls_history p k [] met = refl
calls_history p k (t ∷ more) met =
    calls_history p (kept_by k t) more met.1
    ∙ ap (λ (m : Machine). machine_after p m (history_of more)) (turn_goes p k t met.0).machine
    ∙ sym (machine_continued p (machine_in k) (calls_in t) (history_of more))

pub calls_got : (p : Profile) (k : Kept) (turns : List Turn) → AllHonest p k turns
    → packets_in (got_in turns) ≡ answers_in (record_of p (machine_in k) (history_of turns))
unfolding AllHonest history_of got_in packets_in answers_in record_of
calls_got p k [] met = refl
calls_got p k (t ∷ more) met =
    let m : Machine = machine_in k in
    let g : Goes p k t = turn_goes p k t met.0 in
    packets_append (got_by t) (got_in more)
    ∙ ap (λ (l : List (List ℕ)). l ++ packets_in (got_in more)) g.got
    ∙ ap (λ (l : List (List ℕ)). answers_in (record_of p m (calls_in t)) ++ l)
    (calls_got p (kept_by k t) more met.1 ∙ ap (λ (n : Machine). answers_in (record_of p n (history_of more))) g.machine)
    ∙ sym
    (ap answers_in (record_continued p m (calls_in t) (history_of more))
    ∙ answers_append (record_of p m (calls_in t)) (record_of p (machine_after p m (calls_in t)) (history_of more)))
