-- What stands as a request in the record of a line from the start: a whole packet, or the three bytes of a refused length. Assumes nothing.
use mathlib.Core.Bool.{true}
use mathlib.Core.List.{List, [], ◌∷◌, ◌++◌}
use mathlib.Core.Logic.{◌⊎◌, inl, inr, ⊎_elim}
use mathlib.Core.Path.{◌≡◌, sym, subst}
use Prim.Native.Nat.{ℕ}
use Rattle.profile.specs.declared.Profile.{Profile}
use Rattle.profile_rules.specs.Rules.{Accepted as Acceptable}
use Rattle.packet.specs.declared.Progress.TheVariants.{Unfit}
use Rattle.packet.specs.Packet.{progress_of, is_complete}
use Rattle.packet.proofs.Laws.{impossible}
use Rattle.packet.proofs.Gathering.{is_complete_lem, unfit_third}
use Rattle.packet.proofs.Partial.{is_partial_lem}
use Rattle.state.specs.declared.Awaited.{Awaited}
use Rattle.state.specs.declared.Awaited.TheVariants.{WakeUp, Packet}
use Rattle.state.specs.Awaits.{awaits_of, held_fits}
use Rattle.record_exchange.specs.Line.{Entry, exchange, restart}
use Rattle.device_steps.specs.Step.{Machine, step_of}
use Rattle.device_steps.specs.Fits.{FitMachine}
use Rattle.device_steps.specs.Records.{is_unfit, progress_in, heard_with, completes, refuses, Brings}
use Rattle.device_steps.proofs.Decided.{unfit_is}
use Rattle.device_steps.proofs.Kept.{fresh_fits, still_fits}
use Rattle.device_steps.proofs.Replies.{brings_or}
use Rattle.record_history.specs.History.{Call, deliver, again, fresh_of, hearing, entries_at, heard_record, record_of}
use Rattle.record_history.proofs.Lasting.{hearing_fits}
use Rattle.demands.specs.Demand3.{IsRequest, OnlyRequests}
use Rattle.record_history.proofs.Recorded.{entry_asked, entry_unasked}

-- what a byte brings to a machine that fits
brought : (a : Awaited) (h : List ℕ) (b : ℕ) → held_fits a h ≡ true
    → (is_complete (progress_in a (h ++ b ∷ [])) ≡ true) ⊎ (is_unfit (progress_in a (h ++ b ∷ [])) ≡ true) → IsRequest (h ++ b ∷ [])
unfolding held_fits progress_in
brought (WakeUp u) h b f x = ⊎_elim (λ e. impossible (cc)) (λ e. impossible (cc)) x
brought (Packet kind) h b f x =
    ⊎_elim
    (λ c. record { kind = kind; is = inl (is_complete_lem (progress_of kind (h ++ b ∷ [])) c) })
    (λ u.
    let e : progress_of kind (h ++ b ∷ []) ≡ Unfit = unfit_is (progress_of kind (h ++ b ∷ [])) u in
    record { kind = kind; is = inr (e, unfit_third kind h b (is_partial_lem (progress_of kind h) f) e) })
    x

brings_request : (p : Profile) (m : Machine) (b : ℕ) → FitMachine p m → Brings m b → IsRequest (heard_with m b)
unfolding completes refuses
brings_request p m b f h = brought (awaits_of m.state.stage) m.held b f.held h

requests_append : (es fs : List Entry) → OnlyRequests es → OnlyRequests fs → OnlyRequests (es ++ fs)
unfolding OnlyRequests
requests_append [] fs a b = b
requests_append (exchange q reply ∷ es) fs a b = (a.0, requests_append es fs a.1 b)
requests_append (restart ∷ es) fs a b = requests_append es fs a b

entry_requests : (p : Profile) (m : Machine) (b : ℕ) → FitMachine p m → OnlyRequests (entries_at p m b)
unfolding OnlyRequests
entry_requests p m b f =
    ⊎_elim
    (λ (h : Brings m b). subst OnlyRequests (sym (entry_asked p m b h)) (brings_request p m b f h, tt))
    (λ (n : Brings m b → ⊥). subst OnlyRequests (sym (entry_unasked p m b n)) tt)
    (brings_or m b)

heard_requests : (p : Profile) → Acceptable p → (m : Machine) (bs : List ℕ) → FitMachine p m → OnlyRequests (heard_record p m bs)
unfolding heard_record OnlyRequests
heard_requests p a m [] f = tt
heard_requests p a m (b ∷ bs) f =
    let s : Machine = (step_of p m b).machine in
    requests_append (entries_at p m b) (heard_record p s bs) (entry_requests p m b f) (heard_requests p a s bs (still_fits p a m b f))

pub record_requests : (p : Profile) → Acceptable p → (m : Machine) (calls : List Call) → FitMachine p m → OnlyRequests (record_of p m calls)
unfolding record_of OnlyRequests
record_requests p a m [] f = tt
record_requests p a m (deliver bs ∷ more) f =
    let s : Machine = hearing p m bs in
    requests_append (heard_record p m bs) (record_of p s more) (heard_requests p a m bs f) (record_requests p a s more (hearing_fits p a m bs f))
record_requests p a m (again ∷ more) f = record_requests p a (fresh_of p m.image) more (fresh_fits p m.image)
