-- A delivery byte by byte: what the bytes so far have done, and what the whole delivery leaves at its end. Assumes nothing.
use mathlib.Core.Bool.{Bool, true, false}
use mathlib.Core.List.{List, [], ◌∷◌, ◌++◌}
use mathlib.Core.Path.{◌≡◌, refl, sym, ap, subst, ◌∙◌}
use Prim.Native.Nat.{ℕ, ◌+◌, ◌-◌, ◌≤◌, ◌<◌}
use native.Mathlib.Omega.{arith}
use lib.ListN.{length, take, drop, get_or, length-drop, length-append, take-append-drop}
use lib.Seq.{take_all, length-take-le, paste, paste-zero, take-paste, length-paste}
use Rattle.profile.specs.declared.Profile.{Profile}
use Rattle.packet.specs.Frame.{front}
use Rattle.packet.proofs.Laws.{impossible}
use Rattle.state.specs.declared.State.{State}
use Rattle.state.specs.Awaits.{awaits_of, held_fits}
use Rattle.state.specs.State.{with_held}
use Rattle.answer.specs.declared.Answered.{Answered}
use Rattle.answer_waking.proofs.Woken.{front_nothing}
use Rattle.device_calls.specs.Calls.{Lent, buffers, number_of, feed_refusal, is_accepted, Refusal}
use Rattle.device_calls.specs.Ready.{Ready}
use Rattle.device_calls.proofs.Rows.{is_accepted_lem}
use Rattle.device_steps.specs.Step.{Machine, machine_of, Step, holding, step_of}
use Rattle.device_steps.specs.Feed.{Delivery, feed_of}
use Rattle.device_steps.proofs.Delivered.{later, Reached, reached_start, reached_more, reached_quiet, reached_reply, reached_end, consumed_most}
use Rattle.device.specs.declared.Fed.{Fed}
use Rattle.device.specs.Steps.{Stood, Holding, Added}
use Rattle.device.specs.Post.{Ran, FedBy, Feeds}
use Rattle.std.specs.Prelude.{Ok, Err}
use Rattle.device.proofs.Added.{there, room, held_on, fed_more}

-- what the bytes before i have done: no reply yet, the state fits, and what the whole input gives is what its rest gives, i bytes later
pub record Turned (p : Profile) (l₀ : Lent) (bs : List ℕ) (st₀ : State) (l : Lent) (st : State) (i : ℕ) : Type 0 where
  pub within : i ≤ length bs
  pub ready : Ready p st l
  pub image : length l.image ≡ length l₀.image
  pub receive : length l.receive ≡ length l₀.receive
  pub reply : l.reply ≡ l₀.reply
  pub untouched : i ≡ 0 → l.receive ≡ l₀.receive
  pub rest : Reached p (machine_of st₀ l₀) bs i (machine_of st l)

-- a machine by its parts
pub machine_eq : (a b : Machine) → a.image ≡ b.image → a.held ≡ b.held → a.state ≡ b.state → a ≡ b
machine_eq a b i h s =
    ap (λ (x : List ℕ). record { image = x; held = a.held; state = a.state }) i
    ∙ ap (λ (x : List ℕ). record { image = b.image; held = x; state = a.state }) h
    ∙ ap (λ (x : State). record { image = b.image; held = b.held; state = x }) s

-- a buffer that an empty reply was written to
quiet_reply : (out before after : List ℕ) → length out ≡ 0 → after ≡ front out before → after ≡ before
quiet_reply [] before after z e = e ∙ sym (front_nothing before)
quiet_reply (x ∷ out) before after z e = absurd (omega (arith, z))

-- before the first byte
pub turned_none : (p : Profile) (l : Lent) (bs : List ℕ) (st : State) → Ready p st l → Turned p l bs st l st 0
turned_none p l bs st r =
    record {
      within = omega arith;
      ready = r;
      image = refl;
      receive = refl;
      reply = refl;
      untouched = λ e. refl;
      rest = reached_start p (machine_of st l) bs;
    }

-- what an accepted feed answers, by its parts
fed_is : {st st' : State} {i i' n n' : ℕ} → st ≡ st' → i ≡ i' → n ≡ n'
    → ◌≡◌ {A = Fed} (record { refusal = Ok tt; state = st; consumed = i; count = n }) (record { refusal = Ok tt; state = st'; consumed = i'; count = n' })
fed_is a b c = rw (a, b, c) refl

module _ {p : Profile} {l₀ : Lent} {bs : List ℕ} {st₀ : State} {l : Lent} {st : State} {i : ℕ} (t : Turned p l₀ bs st₀ l st i) where
  abbrev m : Machine
  m = machine_of st l

  abbrev s : Step
  s = step_of p m (get_or bs i 0)

  -- where the delivery starts, and what the whole of it gives
  abbrev start : Machine
  start = machine_of st₀ l₀

  abbrev d : Delivery
  d = feed_of p start bs

  -- no byte is left
  pub ran_end : {count : ℕ} → count ≡ 0 → length bs ≤ i → Ran d bs l₀ l (record { refusal = Ok tt; state = st; consumed = i; count = count })
  ran_end {count} z h =
      subst (λ (x : Delivery). Ran x bs l₀ l (record { refusal = Ok tt; state = st; consumed = i; count = count }))
      (sym (reached_end p start bs i m t.rest h))
      (record {
        is = fed_is refl refl z;
        image = refl;
        held = refl;
        reply = t.reply ∙ front_nothing l₀.reply;
        idle = λ e. t.untouched (let w : i ≤ length bs = t.within in omega arith);
      })

  -- what is held fits, with room for more
  pub turned_holds : Holding (awaits_of st.stage) st.held l.receive
  turned_holds = record { inside = t.ready.fit.inside; fits = t.ready.fit.held; room = t.ready.receive }

  -- n bytes that only add to what is awaited
  module _ {n : ℕ} {rc : List ℕ} (from-rest : Added (awaits_of st.stage) st.held (take (length bs - i) (drop i bs)) n l.receive rc) where
    k : Added (awaits_of st.stage) st.held (drop i bs) n l.receive rc
    k =
        subst (λ (x : List ℕ). Added (awaits_of st.stage) st.held x n l.receive rc) (take_all (length bs - i) (drop i bs) (omega (arith, length-drop i bs)))
        from-rest

    abbrev q : List ℕ
    q = take st.held l.receive

    abbrev added : List ℕ
    added = take n (drop i bs)

    abbrev next : State
    next = with_held (st.held + n) st

    abbrev then : Lent
    then = buffers l.image rc l.reply

    enough : n ≤ length (drop i bs)
    enough = there st.held l.receive (drop i bs) n (awaits_of st.stage) turned_holds k.taken

    count : length added ≡ n
    count = length-take-le n (drop i bs) enough

    pub fits_in : st.held + n ≤ length l.receive
    fits_in = room st.held l.receive (drop i bs) n (awaits_of st.stage) turned_holds k.taken

    was_count : length q ≡ st.held
    was_count = length-take-le st.held l.receive turned_holds.inside

    kept : length rc ≡ length l.receive
    kept = ap length k.receive ∙ length-paste l.receive st.held (drop i bs) n fits_in enough

    held_now : take (st.held + n) rc ≡ q ++ added
    held_now = ap (take (st.held + n)) k.receive ∙ take-paste l.receive st.held (drop i bs) n t.ready.fit.inside enough

    still_held : held_fits (awaits_of st.stage) (q ++ added) ≡ true
    still_held = held_on st.held l.receive (drop i bs) n (awaits_of st.stage) turned_holds k.taken

    count_now : st.held + n ≡ length (q ++ added)
    count_now = omega (arith, length-append q added, was_count, count)

    fed : feed_of p m (drop i bs) ≡ later n (feed_of p (machine_of next then) (drop n (drop i bs)))
    fed =
        let rest : List ℕ = drop n (drop i bs) in
        let was : m ≡ (holding q m).machine = machine_eq m (holding q m).machine refl refl (ap (λ (j : ℕ). with_held j st) (sym was_count)) in
        let is : (holding (q ++ added) m).machine ≡ machine_of next then =
        machine_eq (holding (q ++ added) m).machine (machine_of next then) refl (sym held_now) (ap (λ (j : ℕ). with_held j st) (sym count_now)) in
        ap (λ (x : List ℕ). feed_of p m x) (sym (take-append-drop n (drop i bs)))
        ∙ ap (λ (x : Machine). feed_of p x (added ++ rest)) was
        ∙ fed_more p m q added rest still_held
        ∙ ap (λ (x : Machine). later (length added) (feed_of p x rest)) is
        ∙ ap (λ (j : ℕ). later j (feed_of p (machine_of next then) rest)) count

    same : i + n ≡ 0 → rc ≡ l₀.receive
    same e =
        let z : n ≡ 0 = omega arith in
        k.receive ∙ ap (λ (j : ℕ). paste l.receive st.held (drop i bs) j) z ∙ sym (paste-zero l.receive st.held (drop i bs)) ∙ t.untouched (omega arith)

    pub turned_more : {now-state : State} → now-state ≡ next → Turned p l₀ bs st₀ then now-state (i + n)
    turned_more is =
        let r : Ready p st l = t.ready in
        subst (λ (x : State). Turned p l₀ bs st₀ then x (i + n)) (sym is)
        (record {
          within = omega (arith, enough, length-drop i bs, t.within);
          ready = record {
            profile = r.profile;
            image = r.image;
            receive = rw kept r.receive;
            reply = r.reply;
            fit = record {
              inside = omega (arith, fits_in, kept);
              held = ap (held_fits (awaits_of st.stage)) held_now ∙ still_held;
              stage = r.fit.stage;
            };
          };
          image = t.image;
          receive = kept ∙ t.receive;
          reply = t.reply;
          untouched = same;
          rest = reached_more p start bs i n m (machine_of next then) t.rest fed;
        })

  -- what the rest gives, given after the bytes before it
  pub ran_rest : {f : Fed} {after : Lent} → i < length bs
      → Ran (feed_of p m (take (length bs - i) (drop i bs))) (take (length bs - i) (drop i bs)) l after f
      → Ran d bs l₀ after (record { refusal = Ok tt; state = f.state; consumed = i + f.consumed; count = f.count })
  ran_rest {f} {after} h from-rest =
      let whole : take (length bs - i) (drop i bs) ≡ drop i bs = take_all (length bs - i) (drop i bs) (omega (arith, length-drop i bs)) in
      let k : Ran (feed_of p m (drop i bs)) (drop i bs) l after f = subst (λ (x : List ℕ). Ran (feed_of p m x) x l after f) whole from-rest in
      subst (λ (x : Delivery). Ran x bs l₀ after (record { refusal = Ok tt; state = f.state; consumed = i + f.consumed; count = f.count }))
      (sym t.rest)
      (record {
        is = fed_is (ap (λ (x : Fed). x.state) k.is) (let c = ap (λ (x : Fed). x.consumed) k.is in omega arith) (ap (λ (x : Fed). x.count) k.is);
        image = k.image;
        held = k.held;
        reply = k.reply ∙ ap (front (feed_of p m (drop i bs)).reply) t.reply;
        idle = λ e. absurd (omega arith);
      })

  -- it consumes no more than there is
  pub rest_fits : {f : Fed} {after : Lent} → Ran (feed_of p m (take (length bs - i) (drop i bs))) (take (length bs - i) (drop i bs)) l after f
      → i + f.consumed ≤ length bs
  rest_fits k =
      let rest : List ℕ = take (length bs - i) (drop i bs) in
      let whole : length bs - i ≤ length (drop i bs) = omega (arith, length-drop i bs) in
      omega (arith, ap (λ (x : Fed). x.consumed) k.is, consumed_most p m rest, length-take-le (length bs - i) (drop i bs) whole, t.within)

  module _ {r : Answered} {after : Lent} (h : i < length bs) (left : Stood s p l after r) where
    -- a byte without a reply
    pub turned_on : r.count ≡ 0 → length after.image ≡ length l.image → length after.receive ≡ length l.receive → length after.reply ≡ length l.reply
        → Turned p l₀ bs st₀ after r.state (i + 1)
    turned_on z a b c =
        let quiet : length s.reply ≡ 0 = sym left.count ∙ z in
        let next : machine_of r.state after ≡ s.machine = machine_eq (machine_of r.state after) s.machine left.image left.held left.state in
        let q : Ready p st l = t.ready in
        record {
          within = omega arith;
          ready = record { profile = q.profile; image = a ∙ q.image; receive = rw b q.receive; reply = rw c q.reply; fit = left.fit };
          image = a ∙ t.image;
          receive = b ∙ t.receive;
          reply = quiet_reply s.reply l.reply after.reply quiet left.reply ∙ t.reply;
          untouched = λ e. absurd (omega arith);
          rest = subst (λ (x : Machine). Reached p start bs (i + 1) x) (sym next) (reached_quiet p start bs i m t.rest h quiet);
        }

    -- a byte with a reply ends the run
    pub ran_reply : (r.count ≡ 0 → ⊥) → Ran d bs l₀ after (record { refusal = Ok tt; state = r.state; consumed = i + 1; count = r.count })
    ran_reply z =
        let some : 0 < length s.reply = answered (length s.reply) (λ e. z (left.count ∙ e)) in
        let k : 1 + i ≡ i + 1 = omega arith in
        subst (λ (x : Delivery). Ran x bs l₀ after (record { refusal = Ok tt; state = r.state; consumed = i + 1; count = r.count }))
        (sym (reached_reply p start bs i m t.rest h some))
        (record {
          is = fed_is left.state (sym k) left.count;
          image = left.image;
          held = ap (λ (x : State). take x.held after.receive) (sym left.state) ∙ left.held;
          reply = left.reply ∙ ap (front s.reply) t.reply;
          idle = λ e. absurd (omega arith);
        })
      where
        answered : (n : ℕ) → (n ≡ 0 → ⊥) → 0 < n
        answered n f = let g : n ≡ 0 → ⊥ = f in omega arith

-- the n bytes that a delivery begins with
module _ (p : Profile) (l : Lent) (bs : List ℕ) (st : State) (n : ℕ) (rc : List ℕ) (r : Ready p st l)
    (k : Added (awaits_of st.stage) st.held bs n l.receive rc) where
  whole : Added (awaits_of st.stage) st.held (take (length bs - 0) (drop 0 bs)) n l.receive rc
  whole = subst (λ (x : List ℕ). Added (awaits_of st.stage) st.held x n l.receive rc) (sym (take_all (length bs - 0) (drop 0 bs) (omega arith))) k

  pub turned_first : {now-state : State} → now-state ≡ with_held (st.held + n) st → Turned p l bs st (buffers l.image rc l.reply) now-state n
  turned_first {now-state} is =
      let z : 0 + n ≡ n = omega arith in
      subst (λ (j : ℕ). Turned p l bs st (buffers l.image rc l.reply) now-state j) z (turned_more (turned_none p l bs st r) whole is)

-- an accepted call, and a refused one, which leaves all as it was
pub fed_ran : {found : Refusal} (refusal : Refusal) (t : Bool) (d : Delivery) (input : List ℕ) (st : State) (before after : Lent) (r : Fed)
    → found ≡ refusal → t ≡ is_accepted found → t ≡ true → Ran d input before after r → FedBy refusal d input st before after r
fed_ran {found} refusal t d input st before after r e i h k =
    subst (λ (x : Refusal). FedBy x d input st before after r) (sym (is_accepted_lem found (sym i ∙ h)) ∙ e) k

fed_not : (refusal : Refusal) (d : Delivery) (input : List ℕ) (st : State) (l : Lent) → is_accepted refusal ≡ false
    → FedBy refusal d input st l l (record { refusal = refusal; state = st; consumed = 0; count = 0 })
fed_not (Ok tt) d input st l e = impossible (cc)
fed_not (Err row) d input st l e = record { is = refl; lent = refl }

pub fed_refused : (refusal found : Refusal) (t : Bool) (d : Delivery) (input : List ℕ) (st : State) (l : Lent) → found ≡ refusal → t ≡ is_accepted found → t ≡ false
    → FedBy refusal d input st l l (record { refusal = found; state = st; consumed = 0; count = 0 })
fed_refused refusal found t d input st l e i h =
    subst (λ (x : Refusal). FedBy x d input st l l (record { refusal = found; state = st; consumed = 0; count = 0 })) e
    (fed_not found d input st l (sym i ∙ h))

-- either way the number is that of the refusal
fed_number : (refusal : Refusal) (d : Delivery) (input : List ℕ) (st : State) (before after : Lent) (r : Fed) → FedBy refusal d input st before after r
    → number_of r.refusal ≡ number_of refusal
fed_number (Ok tt) d input st before after r f = ap (λ (x : Fed). number_of x.refusal) f.is
fed_number (Err row) d input st before after r f = ap (λ (x : Fed). number_of x.refusal) f.is

pub feeds : {p : Profile} {st : State} {input : List ℕ} {before after : Lent} {r : Fed}
    → FedBy (feed_refusal p st before) (feed_of p (machine_of st before) input) input st before after r → Feeds p st input before after r
feeds {p} {st} {input} {before} {after} {r} f =
    record { number = fed_number (feed_refusal p st before) (feed_of p (machine_of st before) input) input st before after r f; fed = f }
