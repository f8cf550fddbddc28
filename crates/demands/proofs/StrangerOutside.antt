-- What a stranger can learn, for callers in C: the state that a call leaves reads back as itself, so the buffers are alike again. Assumes nothing.
use mathlib.Core.Bool.{true}
use mathlib.Core.List.{List, [], ◌++◌}
use Rattle.std.specs.Prelude.{Option, None, Some, Ok, Err}
use mathlib.Core.Path.{◌≡◌, refl, sym, ap, subst, ◌∙◌}
use Prim.Native.Nat.{ℕ, ◌<◌}
use native.Mathlib.Omega.{arith}
use lib.ListN.{length, take}
use borrow.Author.Tests.{eq-eqb}
use Rattle.verdict.specs.Check.{Check, first_fault}
use Rattle.profile.specs.declared.Profile.{Profile}
use Rattle.profile_bytes.specs.Profile.{profile_in}
use Rattle.packet.proofs.Laws.{impossible}
use Rattle.packet_fields.specs.Fields.{bytes_from}
use Rattle.state.specs.declared.Stage.{Stage}
use Rattle.state.specs.declared.Stage.TheVariants.{Setting, Authentication, Command, Writing, Reading}
use Rattle.state.specs.declared.State.{State}
use Rattle.state.specs.State.{fresh_state, zero_state}
use Rattle.state_bytes.specs.State.{state_length, range_of, state_bytes, stage_in, state_with, state_by, state_in, state_over}
use Rattle.state_bytes.proofs.StateRoundTrip.{state_reads}
use Rattle.device_calls.specs.declared.Row.{Row}
use Rattle.device_calls.specs.Calls.{Lent, number_of, start_rows, feed_rows, refusal_of, started_at, Refusal}
use Rattle.device_calls.specs.Ready.{Ready}
use Rattle.device_calls.proofs.Rows.{rows_ready, refused_alike}
use Rattle.device_steps.specs.Step.{machine_of}
use Rattle.device_steps.specs.Feed.{Delivery}
use Rattle.device_steps.specs.Fits.{FitMachine}
use Rattle.device_steps.proofs.Kept.{feed_fits, machine_fits, held_short}
use Rattle.interface.specs.Calls.{LentBytes, bytes, state_rows, feeding_rows, starting_refusal, feeding_refusal}
use Rattle.interface.specs.Post.{Numbers, numbers, StartedBytes, reset_over, ResetBytes, state_or, delivery_of, RanBytes, UnfedBytes, FedBytes, FeedsBytes}
use Rattle.interface.proofs.Refusals.{accepted_room, state_there}
use Rattle.interface.proofs.Unique.{reset_once}
use Rattle.stranger.specs.Alike.{is_shut, SameStored}
use Rattle.stranger.specs.Seen.{SameDelivery}
use Rattle.stranger.specs.Running.{AlikeLent}
use Rattle.stranger.proofs.Plain.{is_plain, Plain, feed_plain}
use Rattle.stranger.proofs.Calls.{feed_alike}
use Rattle.stranger.proofs.Running.{Left, replies_alike, left_alike}
use Rattle.demands.specs.StrangerOutside.{buffers_in, AlikeBytes, ShutBytes, SameNumbers, StrangerOutside}
use Rattle.demands.proofs.Outside.{zero_accepts, same_rows}

-- the state in any bytes, and the one that stands for none, has an ID of 16
read_sixteen : (bs : List ℕ) → length (state_or (state_in bs)).id ≡ 16
unfolding state_with bytes_from zero_state
read_sixteen bs = by (stage_in bs)
  where
    by : (s : Option Stage) → length (state_or (state_by bs s)).id ≡ 16
    by None = refl
    by (Some stage) = refl

-- outside a write and a read there is no range to fit into four bytes each
no_range : (g : Stage) → is_plain g ≡ true → range_of g ≡ record { next = 0; left = 0 }
no_range (Setting pulse) h = refl
no_range Authentication h = refl
no_range Command h = refl
no_range (Writing r) h = impossible (cc)
no_range (Reading r) h = impossible (cc)

-- buffers that are alike with a state are so with what is read from its bytes
kept_lent : {p : Profile} (st : State) {bs : List ℕ} {l l' : Lent} → Plain st → st.held < 4294967296 → bs ≡ state_bytes st → AlikeLent p st l l'
    → AlikeLent p (state_or (state_in bs)) l l'
kept_lent {p} st {bs} {l} {l'} w h e a =
    let range : range_of st.stage ≡ record { next = 0; left = 0 } = no_range st.stage w.stage in
    let reads : state_in (state_bytes st) ≡ Some st = state_reads st w.sixteen (rw range (omega arith)) (rw range (omega arith)) h in
    subst (λ (s : State). AlikeLent p s l l') (sym (ap (λ (x : List ℕ). state_or (state_in x)) e ∙ ap state_or reads)) a

-- and a fresh state holds nothing, so with it only images and lengths count
fresh_lent : {p : Profile} {bs : List ℕ} {l l' : Lent} → SameStored p l.image l'.image → length l.receive ≡ length l'.receive
    → length l.reply ≡ length l'.reply → bs ≡ state_bytes (fresh_state p) → AlikeLent p (state_or (state_in bs)) l l'
unfolding fresh_state
fresh_lent {p} s receive reply e =
    kept_lent (fresh_state p) (record { sixteen = refl; stage = refl }) (omega arith) e
    (record { machine = record { state = refl; held = refl; stored = s }; receive = receive; reply = reply })

-- two feeds with one and the same state
module _ (profile input state : List ℕ) (l l' : Lent) (a : AlikeLent (profile_in profile) (state_or (state_in state)) l l') where
  abbrev p : Profile
  p = profile_in profile

  abbrev st : State
  st = state_or (state_in state)

  abbrev before : LentBytes
  before = bytes l.image state l.receive l.reply

  abbrev before' : LentBytes
  before' = bytes l'.image state l'.receive l'.reply

  abbrev d : Delivery
  d = delivery_of profile before input

  abbrev d' : Delivery
  d' = delivery_of profile before' input

  -- they are refused alike: bytes that are no state have no row that looks at the buffers
  refusals_alike : feeding_refusal profile before ≡ feeding_refusal profile before'
  unfolding feeding_rows feed_rows
  refusals_alike = by (state_in state) a
    where
      by : (o : Option State) → AlikeLent p (state_or o) l l'
          → refusal_of (first_fault (start_rows p (length l.image) ++ state_rows p o l.receive (length l.reply)))
          ≡ refusal_of (first_fault (start_rows p (length l'.image) ++ state_rows p o l'.receive (length l'.reply)))
      by None b = ap (λ (n : ℕ). refusal_of (first_fault (start_rows p n ++ state_rows p None [] 0))) b.machine.stored.size
      by (Some s) b = refused_alike p s l l' b.machine.stored.size b.machine.held b.receive b.reply

  -- an accepted one has what a step asks
  ready : feeding_refusal profile before ≡ Ok tt → (o : Option State) → state_in state ≡ o → Ready p (state_or o) l
  ready k None e = absurd (state_there profile before k e)
  ready k (Some s) e = rows_ready p s l (ap (λ (rows : List (Check Row)). refusal_of (first_fault rows)) (sym (same_rows profile before s e)) ∙ k)

  -- and leaves fewer bytes held than a packet has
  few_held : feeding_refusal profile before ≡ Ok tt → d.machine.state.held < 4294967296
  few_held k =
      let g : Ready p st l = ready k (state_in state) refl in
      let f : FitMachine p d.machine = feed_fits p g.profile (machine_of st l) input (machine_fits p st l g.fit) in
      let few : length d.machine.held < 1030 = held_short p d.machine f in
      let count : d.machine.state.held ≡ length d.machine.held = f.count in
      omega arith

  module _ (after after' : LentBytes) (r r' : Numbers) where
    -- accepted; a lent slice keeps its length
    rans_alike : is_shut st.stage ≡ true → length after.receive ≡ length l.receive → length after'.receive ≡ length l'.receive
        → feeding_refusal profile before ≡ Ok tt → RanBytes d input before after r → RanBytes d' input before' after' r'
        → SameNumbers profile after after' r r'
    rans_alike h kept kept' k x y =
        let s : SameDelivery p d d' = feed_alike p (machine_of st l) (machine_of st l') input a.machine h in
        let left : Left d l (buffers_in after) = record { image = x.image; held = x.held; reply = x.reply } in
        let left' : Left d' l' (buffers_in after') = record { image = y.image; held = y.held; reply = y.reply } in
        record {
          result =
              x.is
              ∙ ap (λ (n : ℕ). numbers 0 n (length d.reply)) s.consumed
              ∙ ap (λ (reply : List ℕ). numbers 0 d'.consumed (length reply)) s.reply
              ∙ sym y.is;
          reply =
              ap (λ (n : Numbers). take n.sent after.reply) x.is
              ∙ replies_alike s left left'
              ∙ sym (ap (λ (n : Numbers). take n.sent after'.reply) y.is);
          lent =
              record {
                state = x.state ∙ ap state_bytes s.machine.state ∙ sym y.state;
                lent =
                    kept_lent d.machine.state (feed_plain p (machine_of st l) input (read_sixteen state) h) (few_held k) x.state
                    (left_alike s left left' (kept ∙ a.receive ∙ sym kept') a.reply);
              };
        }

    -- refused: everything stays
    unfeds_alike : (row : Row) → UnfedBytes row before after r → UnfedBytes row before' after' r' → SameNumbers profile after after' r r'
    unfeds_alike row x y =
        record {
          result = x.is ∙ sym y.is;
          reply = ap (λ (n : Numbers). take n.sent after.reply) x.is ∙ sym (ap (λ (n : Numbers). take n.sent after'.reply) y.is);
          lent =
              subst (λ (m : LentBytes). AlikeBytes profile m after') (sym x.lent)
              (subst (AlikeBytes profile before) (sym y.lent) (record { state = refl; lent = a }));
        }

    fed_alike : is_shut st.stage ≡ true → length after.receive ≡ length l.receive → length after'.receive ≡ length l'.receive
        → FeedsBytes profile input before after r → FeedsBytes profile input before' after' r' → SameNumbers profile after after' r r'
    fed_alike h kept kept' f f' =
        by (feeding_refusal profile before) refl f (subst (λ (x : Refusal). FedBytes x d' input before' after' r') (sym refusals_alike) f')
      where
        by : (x : Refusal) → feeding_refusal profile before ≡ x → FedBytes x d input before after r → FedBytes x d' input before' after' r'
            → SameNumbers profile after after' r r'
        by (Ok tt) k x y = rans_alike h kept kept' k x y
        by (Err row) k x y = unfeds_alike row x y

-- any two feeds: the second one's state put in place by the first one's
feeds_alike : (profile input : List ℕ) (before before' after after' : LentBytes) (r r' : Numbers) → AlikeBytes profile before before' → ShutBytes before
    → length after.receive ≡ length before.receive → length after'.receive ≡ length before'.receive
    → FeedsBytes profile input before after r → FeedsBytes profile input before' after' r' → SameNumbers profile after after' r r'
feeds_alike profile input before before' after after' r r' a h kept kept' f f' =
    fed_alike profile input before.state (buffers_in before) (buffers_in before') a.lent after after' r r' h kept kept' f
    (subst (λ (s : List ℕ). FeedsBytes profile input (bytes before'.image s before'.receive before'.reply) after' r') (sym a.state) f')

-- an accepted start writes all bytes of the state
start_writes : {profile : List ℕ} {n : ℕ} {before after : List ℕ} {r : ℕ} → StartedBytes profile n before after r → r ≡ 0
    → after ≡ state_bytes (fresh_state (profile_in profile))
start_writes {profile} {n} {before} s z =
    let k : starting_refusal profile n (length before) ≡ (Ok tt) = zero_accepts _ (sym s.number ∙ z) in
    s.state
    ∙ ap (λ (x : Refusal). state_over (started_at x (profile_in profile) zero_state) before) k
    ∙ rw (eq-eqb (length before) state_length (accepted_room profile n (length before) k)) refl

starts_alike : (profile image image' before before' after after' : List ℕ) (r r' : ℕ) → SameStored (profile_in profile) image image'
    → length before ≡ length before' → StartedBytes profile (length image) before after r → StartedBytes profile (length image') before' after' r'
    → (r ≡ r')
    × ((receive receive' reply reply' : List ℕ) → length receive ≡ length receive' → length reply ≡ length reply' → r ≡ 0
    → AlikeBytes profile (bytes image after receive reply) (bytes image' after' receive' reply'))
starts_alike profile image image' before earlier after after' r r' same size s s' =
    (number, λ receive receive' reply reply' e f z. record { state = written z; lent = fresh_lent same e f (start_writes s z) })
  where
    number : r ≡ r'
    number =
        s.number
        ∙ ap (λ (n : ℕ). number_of (starting_refusal profile n (length before))) same.size
        ∙ ap (λ (n : ℕ). number_of (starting_refusal profile (length image') n)) size
        ∙ sym s'.number

    written : r ≡ 0 → after ≡ after'
    written z = start_writes s z ∙ sym (start_writes s' (sym number ∙ z))

resets_alike : (profile : List ℕ) (l l' : LentBytes) (after after' : List ℕ) (r r' : ℕ) → AlikeBytes profile l l'
    → ResetBytes profile (length l.image) l.state after r → ResetBytes profile (length l'.image) l'.state after' r'
    → (r ≡ r') × AlikeBytes profile (bytes l.image after l.receive l.reply) (bytes l'.image after' l'.receive l'.reply)
resets_alike profile l l' after after' r r' a s s' =
    (once.0, record { state = once.1; lent = by (starting_refusal profile (length l.image) (length l.state)) s.state })
  where
    -- lengths and state are the same, and with these there is no second answer
    once : (r ≡ r') × (after ≡ after')
    once =
        reset_once profile (length l.image) l.state after after' r r' s
        (subst (λ (n : ℕ). ResetBytes profile n l.state after' r') (sym a.lent.machine.stored.size)
        (subst (λ (bs : List ℕ). ResetBytes profile (length l'.image) bs after' r') (sym a.state) s'))

    by : (x : Refusal) → after ≡ reset_over x (profile_in profile) l.state
        → AlikeLent (profile_in profile) (state_or (state_in after)) (buffers_in l) (buffers_in l')
    by (Ok tt) e = fresh_lent a.lent.machine.stored a.lent.receive a.lent.reply e
    by (Err row) e = subst (λ (bs : List ℕ). AlikeLent (profile_in profile) (state_or (state_in bs)) (buffers_in l) (buffers_in l')) (sym e) a.lent

pub stranger_outside : StrangerOutside
stranger_outside = record { feed = feeds_alike; start = starts_alike; reset = resets_alike }
