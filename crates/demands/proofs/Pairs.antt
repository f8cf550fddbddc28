-- Whatever two callers ask of two devices, there are calls that do what they promise, with room as it is asked for. Assumes nothing.
use mathlib.Core.List.{List, [], ◌∷◌}
use mathlib.Core.Path.{◌≡◌, refl, ap}
use Prim.Native.Nat.{ℕ}
use lib.ListN.{length}
use Rattle.profile.specs.declared.Profile.{Profile}
use Rattle.device_calls.specs.declared.Started.{Started}
use Rattle.device_calls.specs.Calls.{start_refusal, started_by}
use Rattle.device_calls.proofs.Rows.{starts}
use Rattle.record_history.specs.History.{Call, deliver, again}
use Rattle.demands.specs.Session.{Kept, lent_by, kept_by}
use Rattle.demands.specs.Stranger.{OneFeed, Both, feedings, resettings, on_first, on_second, BothHonest, AllLend, TwoSessions}
use Rattle.demands.proofs.Once.{feeds_some, feeds_room}

-- a feed with this reply buffer
abbrev fed_with : Profile → Kept → List ℕ → List ℕ → OneFeed
fed_with p k reply input =
    let o = feeds_some p k.state input (lent_by k reply) in
    record { reply = reply; after = o.after; answer = o.answer }

-- a reset
abbrev reset_of : Profile → Kept → Started
reset_of p k = started_by (start_refusal p (length k.image)) p k.state

pub sessions : (p : Profile) (k k' : Kept) (reply reply' : List ℕ) → length reply ≡ length reply' → (calls : List Call)
    → TwoSessions p k k' reply reply' calls
unfolding BothHonest AllLend
sessions p k k' reply reply' e [] = record { both = []; made = refl; lend = tt; honest = tt }
sessions p k k' reply reply' e (deliver input ∷ more) =
    let t : Both = feedings input (fed_with p k reply input) (fed_with p k' reply' input) in
    let rest : TwoSessions p (kept_by k (on_first t)) (kept_by k' (on_second t)) reply reply' more = sessions p (kept_by k (on_first t)) (kept_by k' (on_second t)) reply reply' e more in
    record {
      both = t ∷ rest.both;
      made = ap (λ (l : List Call). deliver input ∷ l) rest.made;
      lend = (refl, refl, rest.lend);
      honest = (
        (feeds_some p k.state input (lent_by k reply)).feeds,
        (feeds_some p k'.state input (lent_by k' reply')).feeds,
        (e, feeds_room p k.state input (lent_by k reply), feeds_room p k'.state input (lent_by k' reply')),
        rest.honest,
      );
    }
sessions p k k' reply reply' e (again ∷ more) =
    let t : Both = resettings (reset_of p k) (reset_of p k') in
    let rest : TwoSessions p (kept_by k (on_first t)) (kept_by k' (on_second t)) reply reply' more = sessions p (kept_by k (on_first t)) (kept_by k' (on_second t)) reply reply' e more in
    record {
      both = t ∷ rest.both;
      made = ap (λ (l : List Call). again ∷ l) rest.made;
      lend = rest.lend;
      honest = (starts refl, starts refl, tt, rest.honest);
    }
