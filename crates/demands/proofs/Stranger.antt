-- What a stranger can learn: two sessions, call by call, and the statement. Assumes nothing.
use mathlib.Core.Bool.{true, false}
use mathlib.Core.List.{List, [], ◌∷◌, map}
use mathlib.Core.Path.{◌≡◌, refl, sym, ap, subst, ◌∙◌}
use Prim.Native.Nat.{ℕ}
use lib.ListN.{length, take}
use Rattle.profile.specs.declared.Profile.{Profile}
use Rattle.state.specs.declared.State.{State}
use Rattle.state.specs.State.{fresh_state, zero_state}
use Rattle.device_calls.specs.declared.Started.{Started}
use Rattle.device_calls.specs.Calls.{start_refusal, started_at, started_by, Starts, Refusal}
use Rattle.device.specs.Post.{Feeds}
use Rattle.stranger.specs.Alike.{is_shut, SameStored}
use Rattle.stranger.specs.Running.{AlikeLent, SameFeed}
use Rattle.stranger.proofs.Bytes.{byte_alike, byte_quiet}
use Rattle.stranger.proofs.Calls.{follows, fresh_shut, fitting_stored, shut_alike, call_alike, calls_alike}
use Rattle.stranger.proofs.Running.{feeds_alike}
use Rattle.stranger.proofs.Examples.{goes_on, id_tells, commands_tell, not_again}
use Rattle.demands.specs.Session.{Kept, lent_by, Turn, resetting, Honest, kept_by, kept_after}
use Rattle.demands.specs.Stranger.{AlikeKept, OneFeed, Both, feedings, resettings, on_first, on_second, SameRoom, BothHonest, told_by, told_in, StayShut, Stranger}
use Rattle.demands.proofs.Pairs.{sessions}
use Rattle.std.specs.Prelude.{Ok, Err}
use Rattle.demands.proofs.Due.{told_due}

-- what is kept makes, with reply buffers of one length, buffers that are alike
kept_lent : {p : Profile} {k k' : Kept} (reply reply' : List ℕ) → AlikeKept p k k' → length reply ≡ length reply'
    → AlikeLent p k.state (lent_by k reply) (lent_by k' reply')
kept_lent reply reply' a e = record { machine = a.lent.machine; receive = a.lent.receive; reply = e }

-- a call on each: the same is told, and what is kept is alike again
pub record SameTurn (p : Profile) (k k' : Kept) (t t' : Turn) : Type 0 where
  pub told : told_by k t ≡ told_by k' t'
  pub kept : AlikeKept p (kept_by k t) (kept_by k' t')

module _ (p : Profile) (k k' : Kept) (a : AlikeKept p k k') where
  -- feeds
  fed_alike : (input : List ℕ) (x y : OneFeed) → SameFeed p x.after y.after x.answer y.answer
      → SameTurn p k k' (on_first (feedings input x y)) (on_second (feedings input x y))
  fed_alike input x y s =
      let result : x.answer ≡ y.answer = s.result in
      let reply : take x.answer.count x.after.reply ≡ take y.answer.count y.after.reply = s.reply in
      let held : take x.answer.state.held x.after.receive ≡ take x.answer.state.held y.after.receive = s.lent.machine.held in
      record {
        told = cc;
        kept = record { state = cc; lent = record { machine = s.lent.machine; receive = s.lent.receive; reply = refl } };
      }

  feedings_alike : is_shut k.state.stage ≡ true → (input : List ℕ) (x y : OneFeed) → SameRoom k k' (feedings input x y)
      → Honest p k (on_first (feedings input x y)) → Honest p k' (on_second (feedings input x y))
      → SameTurn p k k' (on_first (feedings input x y)) (on_second (feedings input x y))
  feedings_alike h input x y room f f' =
      fed_alike input x y
      (feeds_alike p k.state input (lent_by k x.reply) (lent_by k' y.reply) x.after y.after x.answer y.answer
      (kept_lent x.reply y.reply a room.0) h room.1 room.2 f
      (subst (λ (st : State). Feeds p st input (lent_by k' y.reply) y.after y.answer) (sym a.state) f'))

  -- a fresh state holds nothing, and one that is given back holds what it held
  reset_held : (x : Refusal) (st : State) → st ≡ started_at x p k.state → take st.held k.receive ≡ take st.held k'.receive
  unfolding fresh_state
  reset_held (Ok tt) st e = ap (λ (s : State). take s.held k.receive) e ∙ sym (ap (λ (s : State). take s.held k'.receive) e)
  reset_held (Err row) st e =
      ap (λ (s : State). take s.held k.receive) e ∙ a.lent.machine.held ∙ sym (ap (λ (s : State). take s.held k'.receive) e)

  pub resets_alike : (r r' : Started) → Starts p (length k.image) k.state r → Starts p (length k'.image) k'.state r'
      → (r ≡ r') × AlikeKept p (kept_by k (resetting r)) (kept_by k' (resetting r'))
  resets_alike r r' s s' =
      let same : r ≡ r' =
      s.is
      ∙ ap (λ (n : ℕ). started_by (start_refusal p n) p k.state) a.lent.machine.stored.size
      ∙ ap (started_by (start_refusal p (length k'.image)) p) a.state
      ∙ sym s'.is in (
        same,
        record {
          state = ap (λ (x : Started). x.state) same;
          lent =
              record {
                machine =
                    record {
                      state = refl;
                      held = reset_held (start_refusal p (length k.image)) r.state (ap (λ (x : Started). x.state) s.is);
                      stored = a.lent.machine.stored;
                    };
                receive = a.lent.receive;
                reply = refl;
              };
        },
      )

  resettings_alike : (r r' : Started) → Starts p (length k.image) k.state r → Starts p (length k'.image) k'.state r'
      → SameTurn p k k' (resetting r) (resetting r')
  resettings_alike r r' s s' =
      let b = resets_alike r r' s s' in
      let result : r ≡ r' = b.0 in
      let held : take r.state.held k.receive ≡ take r.state.held k'.receive = b.1.lent.machine.held in
      record { told = cc; kept = b.1 }

  turns_alike : is_shut k.state.stage ≡ true → (t : Both) → Honest p k (on_first t) → Honest p k' (on_second t) → SameRoom k k' t
      → SameTurn p k k' (on_first t) (on_second t)
  turns_alike h (feedings input x y) f f' room = feedings_alike h input x y room f f'
  turns_alike h (resettings r r') s s' room = resettings_alike r r' s s'

-- starts: with the zero state before
pub starts_alike : (p : Profile) (image image' receive receive' : List ℕ) (r r' : Started) → SameStored p image image' → length receive ≡ length receive'
    → Starts p (length image) zero_state r → Starts p (length image') zero_state r'
    → (r ≡ r')
    × AlikeKept p (record { image = image; receive = receive; state = r.state }) (record { image = image'; receive = receive'; state = r'.state })
unfolding zero_state
starts_alike p image image' receive receive' r r' s e f f' =
    resets_alike p (record { image = image; receive = receive; state = zero_state }) (record { image = image'; receive = receive'; state = zero_state })
    (record {
      state = refl;
      lent = record { machine = record { state = refl; held = refl; stored = s }; receive = e; reply = refl };
    }) r r' f f'

-- all calls
pub told_alike : (p : Profile) (k k' : Kept) → AlikeKept p k k' → is_shut k.state.stage ≡ true → (both : List Both) → BothHonest p k k' both
    → told_in k (map on_first both) ≡ told_in k' (map on_second both)
unfolding BothHonest told_in
told_alike p k k' a h [] met = refl
told_alike p k k' a h (t ∷ more) met =
    let s : SameTurn p k k' (on_first t) (on_second t) = turns_alike p k k' a h t met.0 met.1 met.2 in
    follows s.told (ap (λ (st : State). st.stage) s.kept.state)
    (λ e. told_alike p (kept_by k (on_first t)) (kept_by k' (on_second t)) s.kept e more met.3)

pub kept_alike : (p : Profile) (k k' : Kept) → AlikeKept p k k' → is_shut k.state.stage ≡ true → (both : List Both) → BothHonest p k k' both
    → StayShut k (map on_first both) → AlikeKept p (kept_after k (map on_first both)) (kept_after k' (map on_second both))
unfolding BothHonest StayShut kept_after
kept_alike p k k' a h [] met stay = a
kept_alike p k k' a h (t ∷ more) met stay =
    kept_alike p (kept_by k (on_first t)) (kept_by k' (on_second t)) (turns_alike p k k' a h t met.0 met.1 met.2).kept stay.0 more met.3 stay.1

-- what is told, call by call
told_on : (k : Kept) (t : Turn) (more : List Turn) → is_shut (kept_by k t).state.stage ≡ true → told_in k (t ∷ more) ≡ told_by k t ∷ told_in (kept_by k t) more
unfolding told_in
told_on k t more e = rw e refl

told_last : (k : Kept) (t : Turn) (more : List Turn) → is_shut (kept_by k t).state.stage ≡ false → told_in k (t ∷ more) ≡ told_by k t ∷ []
unfolding told_in
told_last k t more e = rw e refl

pub stranger : Stranger
stranger =
    record {
      stored = fitting_stored;
      alike = λ p m m' state held stored. record { state = state; held = held; stored = stored };
      lent = λ p st l l' machine receive reply. record { machine = machine; receive = receive; reply = reply };
      shut = fresh_shut;
      together = λ p m m' a. shut_alike a;
      byte = λ p m m' a h b. byte_alike p m m' b a h;
      quiet = λ p m h b e. byte_quiet p m b h (ap length e);
      call = λ p m m' a h c. call_alike p m m' c a h;
      calls = λ p m m' a h cs. calls_alike p m m' cs a h;
      feed = feeds_alike;
      start = starts_alike;
      reset = λ p k k' r r' a. resets_alike p k k' a r r';
      told = told_alike;
      kept = kept_alike;
      sessions = sessions;
      due = told_due;
      on = told_on;
      last = told_last;
      goes_on = goes_on;
      by_id = id_tells;
      by_commands = commands_tell;
      not_again = not_again;
    }
