-- What one record of a script does. Assumes nothing.
use mathlib.Core.List.{List}
use mathlib.Core.Path.{◌≡◌, refl, sym, ap, subst, ◌∙◌}
use Prim.Native.Nat.{ℕ}
use lib.ListN.{length}
use Rattle.profile.specs.declared.Profile.{Profile}
use Rattle.state.specs.declared.State.{State}
use Rattle.state.specs.State.{fresh_state}
use Rattle.device_calls.specs.declared.Started.{Started}
use Rattle.device_calls.specs.Calls.{Lent, start_refusal, started_at, started_by, Refusal}
use Rattle.device_calls.specs.Ready.{Ready}
use Rattle.device_calls.proofs.Rows.{start_accepts}
use Rattle.device_steps.specs.Step.{Machine, machine_of}
use Rattle.device.proofs.NextCall.{fresh_ready}
use Rattle.record_history.specs.History.{fresh_of}
use Rattle.record_driver.specs.Stands.{Stands}

-- calls that led to this machine and these replies; no call leads to where it begins
pub stands_at : {p : Profile} {st : State} {l : Lent} {m : Machine} {replies : List ℕ} → Ready p st l → m ≡ machine_of st l → replies ≡ l.reply
    → Stands p m replies st l
stands_at q e f =
    record {
      state = sym (ap (λ (k : Machine). k.state) e);
      image = sym (ap (λ (k : Machine). k.image) e);
      held = sym (ap (λ (k : Machine). k.held) e);
      reply = sym f;
      ready = q;
    }

-- a fresh state is the fresh machine
pub fresh_machine : (p : Profile) (l : Lent) → machine_of (fresh_state p) l ≡ fresh_of p l.image
unfolding fresh_state
fresh_machine p l = refl

-- a reset is accepted: the state is fresh, the image is as it was
pub reset_stands : {p : Profile} {st : State} {l : Lent} {r : Started} → Ready p st l → r ≡ started_by (start_refusal p (length l.image)) p st
    → Stands p (fresh_of p l.image) l.reply r.state l
reset_stands {p} {st} {l} {r} q e =
    subst (λ (s : State). Stands p (fresh_of p l.image) l.reply s l) (sym fresh)
    (stands_at (fresh_ready p l q.profile q.image q.receive q.reply) (sym (fresh_machine p l)) refl)
  where
    fresh : r.state ≡ fresh_state p
    fresh =
        ap (λ (x : Started). x.state) e
        ∙ ap (λ (x : Refusal). started_at x p st) (start_accepts p (length l.image) q.profile q.image)
