-- Demand 3: after any history of deliveries and resets the image is the starting image with the line's record replayed. Assumes nothing.
use mathlib.Core.Bool.{◌||◌, cond}
use mathlib.Core.List.{List, [], ◌∷◌, ◌++◌}
use mathlib.Core.Path.{◌≡◌, refl, sym, ap, subst, ◌∙◌}
use Prim.Native.Nat.{ℕ}
use lib.Dec.{eqb}
use Rattle.verdict.specs.declared.Reason.TheVariants.{LengthRefused}
use Rattle.id_code.specs.Identity.{id_of, is_none}
use Rattle.profile.specs.declared.Profile.{Profile}
use Rattle.profile.specs.Areas.{areas_of}
use Rattle.packet.specs.declared.Progress.{Progress}
use Rattle.packet.specs.declared.Progress.TheVariants.{Astray, Partial, Unfit, Complete, Excess}
use Rattle.packet.specs.Packet.{progress_of, is_complete}
use Rattle.flash.specs.declared.Act.{Act}
use Rattle.flash.specs.declared.Act.TheVariants.{Nothing}
use Rattle.flash.specs.Acts.{performed}
use Rattle.state.specs.declared.Awaited.{Awaited}
use Rattle.state.specs.declared.Awaited.TheVariants.{WakeUp, Packet}
use Rattle.state.specs.declared.Pulse.{Pulse}
use Rattle.state.specs.declared.Pulse.TheVariants.{Zero, One, Acknowledged}
use Rattle.state.specs.declared.Stage.{Stage}
use Rattle.state.specs.declared.Stage.TheVariants.{Setting, Authentication, Command, Writing, Reading}
use Rattle.state.specs.declared.State.{State}
use Rattle.state.specs.Awaits.{awaits_of}
use Rattle.state.specs.State.{fresh_state}
use Rattle.answer.specs.Answer.{Answer}
use Rattle.answer_waking.specs.Wake.{awake, wake_of}
use Rattle.device_steps.specs.Step.{Machine, early_of, answer_of, heard, step_in, step_of}
use Rattle.device_steps.specs.Records.{is_unfit, progress_in, heard_with, completes, refuses}
use Rattle.device_steps.proofs.Settles.{either}
use Rattle.record_exchange.specs.declared.Told.{Told}
use Rattle.record_exchange.specs.Exchange.{exchange_read}
use Rattle.record_exchange.specs.Line.{Entry, exchange}
use Rattle.record_replay.specs.Replay.{Tape, done, entry_replay, replay_from, replay}
use Rattle.record_replay.proofs.Laws.{replay_append}
use Rattle.record_history.specs.History.{Call, deliver, again, fresh_of, hearing, machine_after, entries_at, heard_record, record_of}
use Rattle.record_history.proofs.Recorded.{entries_are}
use Rattle.std.specs.Prelude.{Option, None}
use Rattle.record_history.proofs.SameAct.{Follows, Agrees, passed_over, same_act}

-- the entries take the tape from one image to that of the next machine
pub record Leads (p : Profile) (image : List ℕ) (l : Option ℕ) (es : List Entry) (m : Machine) : Type 0 where
  pub landing : Option ℕ
  pub replays : replay_from (areas_of p) (record { image = image; landing = l }) es ≡ record { image = m.image; landing = landing }
  pub at : Follows m.state.stage landing

-- no entry, and the image stays
still : (p : Profile) (image : List ℕ) (l : Option ℕ) (m : Machine) → image ≡ m.image → Follows m.state.stage l → Leads p image l [] m
unfolding replay_from
still p image l m e h = record { landing = l; replays = ap (λ (i : List ℕ). record { image = i; landing = l }) e; at = h }

wake_law : (p : Profile) (image : List ℕ) (st : State) (l : Option ℕ) (u : Pulse) (b : ℕ)
    → ((wake_of p image st u b).act ≡ Nothing) × Follows (wake_of p image st u b).state.stage l
unfolding wake_of awake
wake_law p image st l Zero b = either (λ (a : Answer). (a.act ≡ Nothing) × Follows a.state.stage l) _ _ (eqb b 0x00) (refl, tt) (refl, tt)
wake_law p image st l One b = either (λ (a : Answer). (a.act ≡ Nothing) × Follows a.state.stage l) _ _ (eqb b 0x00) (refl, tt) (refl, tt)
wake_law p image st l Acknowledged b =
    either (λ (a : Answer). (a.act ≡ Nothing) × Follows a.state.stage l) _ _ (eqb b 0x55)
    (refl, either (λ (s : Stage). Follows s l) Command Authentication (is_none (id_of (areas_of p) image)) tt tt)
    (either (λ (a : Answer). (a.act ≡ Nothing) × Follows a.state.stage l) _ _ (eqb b 0x00) (refl, tt) (refl, tt))

end_at : (s : Stage) (l : Option ℕ) → Follows (early_of s).1 l
end_at (Setting u) l = tt
end_at Authentication l = tt
end_at Command l = tt
end_at (Writing r) l = tt
end_at (Reading r) l = tt

-- what bytes that are this much of a packet add to the record
abbrev entries_for : Progress → List ℕ → List ℕ → List Entry
entries_for x q reply = cond (is_complete x || is_unfit x) (exchange q reply ∷ []) []

-- one byte
module _ (p : Profile) (m : Machine) (l : Option ℕ) (h : Follows m.state.stage l) where
  heard_law : (q : List ℕ) (x : Progress) → (x ≡ Complete → Agrees l q (answer_of p m.image m.state m.state.stage q))
      → Leads p m.image l (entries_for x q (heard p m q x).reply) (heard p m q x).machine
  unfolding heard replay_from entry_replay performed
  heard_law q Astray law = still p m.image l _ refl h
  heard_law q Partial law = still p m.image l _ refl h
  heard_law q Unfit law =
      record {
        landing = l;
        replays = ap (λ (t : Told). done (areas_of p) q t m.image) (passed_over q (early_of m.state.stage).0 LengthRefused l);
        at = end_at m.state.stage l;
      }
  heard_law q Complete law =
      let told : Told = exchange_read q (answer_of p m.image m.state m.state.stage q).reply l in
      record {
        landing = told.landing;
        replays = ap (λ (act : Act). done (areas_of p) q (record { act = act; landing = told.landing }) m.image) (law refl).act;
        at = (law refl).follows;
      }
  heard_law q Excess law = still p m.image l _ refl h

  step_in_law : (b : ℕ) (a : Awaited) → (progress_in a (heard_with m b) ≡ Complete → Agrees l (heard_with m b) (answer_of p m.image m.state m.state.stage (heard_with m b)))
      → Leads p m.image l (entries_for (progress_in a (heard_with m b)) (heard_with m b) (step_in p m a b).reply) (step_in p m a b).machine
  unfolding step_in progress_in performed
  step_in_law b (WakeUp u) law =
      let w = wake_law p m.image m.state l u b in
      still p m.image l _ (sym (ap (λ (act : Act). performed (areas_of p) act [] m.image) w.0)) w.1
  step_in_law b (Packet kind) law = heard_law (heard_with m b) (progress_of kind (heard_with m b)) law

  pub step_law : (b : ℕ) → Leads p m.image l (entries_at p m b) (step_of p m b).machine
  unfolding step_of completes refuses
  step_law b =
      subst (λ (es : List Entry). Leads p m.image l es (step_of p m b).machine) (sym (entries_are p m b))
      (step_in_law b (awaits_of m.state.stage) (λ c. same_act p m.image m.state l (heard_with m b) c h))

-- one record behind the other
then : (p : Profile) (image : List ℕ) (l : Option ℕ) (es fs : List Entry) (m m' : Machine) (k : Leads p image l es m)
    → Leads p m.image k.landing fs m' → Leads p image l (es ++ fs) m'
then p image l es fs m m' k n =
    record {
      landing = n.landing;
      replays =
          replay_append (areas_of p) (record { image = image; landing = l }) es fs
          ∙ ap (λ (t : Tape). replay_from (areas_of p) t fs) k.replays
          ∙ n.replays;
      at = n.at;
    }

-- a delivery
pub hearing_law : (p : Profile) (m : Machine) (l : Option ℕ) (bs : List ℕ) → Follows m.state.stage l → Leads p m.image l (heard_record p m bs) (hearing p m bs)
unfolding hearing heard_record
hearing_law p m l [] h = still p m.image l m refl h
hearing_law p m l (b ∷ bs) h =
    let k = step_law p m l h b in
    let s : Machine = (step_of p m b).machine in
    then p m.image l (entries_at p m b) (heard_record p s bs) s (hearing p s bs) k (hearing_law p s k.landing bs k.at)

fresh_at : (p : Profile) (l : Option ℕ) → Follows (fresh_state p).stage l
unfolding fresh_state
fresh_at p l = tt

-- a history
pub history_law : (p : Profile) (m : Machine) (l : Option ℕ) (calls : List Call) → Follows m.state.stage l
    → Leads p m.image l (record_of p m calls) (machine_after p m calls)
unfolding record_of machine_after replay_from entry_replay
history_law p m l [] h = still p m.image l m refl h
history_law p m l (deliver bs ∷ more) h =
    let k = hearing_law p m l bs h in
    let s : Machine = hearing p m bs in
    then p m.image l (heard_record p m bs) (record_of p s more) s (machine_after p s more) k (history_law p s k.landing more k.at)
history_law p m l (again ∷ more) h =
    let k = history_law p (fresh_of p m.image) l more (fresh_at p l) in
    record { landing = k.landing; replays = k.replays; at = k.at }

-- from any profile and image
pub replayed : (p : Profile) (image : List ℕ) (calls : List Call)
    → (machine_after p (fresh_of p image) calls).image ≡ replay (areas_of p) image (record_of p (fresh_of p image) calls)
unfolding replay
replayed p image calls = sym (ap (λ (t : Tape). t.image) (history_law p (fresh_of p image) None calls (fresh_at p None)).replays)
