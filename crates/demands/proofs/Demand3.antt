-- Demand 3, proved. Assumes nothing.
use mathlib.Core.List.{List}
use mathlib.Core.Path.{◌≡◌, refl, sym, ap, subst, ◌∙◌}
use Prim.Native.Nat.{ℕ}
use lib.ListN.{length, take}
use Rattle.profile.specs.declared.Profile.{Profile}
use Rattle.profile.specs.Areas.{areas_of, total_of}
use Rattle.profile_rules.specs.Rules.{Accepted as Acceptable}
use Rattle.packet.specs.Frame.{Roomy}
use Rattle.state.specs.declared.State.{State}
use Rattle.state.specs.State.{fresh_state}
use Rattle.record_replay.specs.Replay.{replay}
use Rattle.record_replay.proofs.Laws.{unanswered_unseen, restart_unseen, units_unseen}
use Rattle.device_calls.specs.Calls.{feed_refusal}
use Rattle.device_calls.proofs.Rows.{start_accepts}
use Rattle.device_steps.specs.Step.{Machine}
use Rattle.device_steps.proofs.Kept.{fresh_fits}
use Rattle.record_history.specs.History.{Call, fresh_of, machine_after}
use Rattle.record_history.proofs.Cut.{cut_anywhere, cut_record, feed_hears, hears_on}
use Rattle.record_history.proofs.Lasting.{then_resets, then_feeds}
use Rattle.record_history.proofs.Replayed.{replayed}
use Rattle.demands.specs.Session.{lent_by, machine_in, Turn, history_of}
use Rattle.demands.specs.Demand3.{reached, left, NextAccepted, FromStart, kept_since, Demand3}
use Rattle.demands.proofs.Rows.{start_refusal_lem, start_fresh}
use Rattle.demands.proofs.Lines.{record_is, record_once}
use Rattle.demands.proofs.Sessions.{calls_history}
use Rattle.std.specs.Prelude.{Ok}
use Rattle.demands.proofs.Requests.{record_requests}

next_accepted : (p : Profile) → Acceptable p → (image : List ℕ) → length image ≡ total_of (areas_of p) → (calls : List Call)
    → NextAccepted p (reached p image calls)
next_accepted p acceptable image fits calls = record { resets = then_resets p acceptable image fits calls; feeds = then_feeds p acceptable image fits calls }

-- calls from a start on are a history from the fresh machine
module _ (p : Profile) (image receive : List ℕ) (turns : List Turn) (f : FromStart p image receive turns) where
  kept_machine : machine_in (kept_since f) ≡ machine_after p (fresh_of p image) (history_of turns)
  unfolding fresh_state
  kept_machine =
      let fresh : f.begun.state ≡ fresh_state p = start_fresh f.starts (start_refusal_lem f.starts ∙ start_accepts p (length image) f.acceptable f.fits) in
      calls_history p _ turns f.honest
      ∙ ap (λ (st : State). machine_after p (record { image = image; held = take st.held receive; state = st }) (history_of turns)) fresh

  flash_kept : (kept_since f).image ≡ replay (areas_of p) image (left p image (history_of turns))
  flash_kept = ap (λ (m : Machine). m.image) kept_machine ∙ replayed p image (history_of turns)

  next_kept : (reply : List ℕ) → Roomy (kept_since f).receive → Roomy reply → feed_refusal p (kept_since f).state (lent_by (kept_since f) reply) ≡ Ok tt
  next_kept reply wide long =
      let next : NextAccepted p (machine_in (kept_since f)) =
      subst (NextAccepted p) (sym kept_machine) (next_accepted p f.acceptable image f.fits (history_of turns)) in
      next.feeds (kept_since f).receive reply refl wide long

pub demand_3 : Demand3
demand_3 =
    record {
      recorded = record_is;
      recorded_once = record_once;
      requests = λ p acceptable image calls. record_requests p acceptable (fresh_of p image) calls (fresh_fits p image);
      flash = λ p acceptable image fits. replayed p image;
      accepted = next_accepted;
      cut = λ p m a b more. (cut_anywhere p m a b more, cut_record p m a b more);
      heard = feed_hears;
      unread = hears_on;
      calls = calls_history;
      kept = flash_kept;
      goes_on = next_kept;
      unanswered = unanswered_unseen;
      restarts = restart_unseen;
      blind = units_unseen;
    }
