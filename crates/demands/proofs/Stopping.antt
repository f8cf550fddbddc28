-- Where a delivery stops, what its packets are answered, and which bytes are not. Assumes nothing.
use mathlib.Core.Bool.{false}
use mathlib.Core.List.{List, [], ◌∷◌}
use mathlib.Core.Logic.{◌⊎◌, inl, inr, ⊎_elim, ◌↔◌}
use Rattle.std.specs.Prelude.{None, Some, Ok, Err}
use mathlib.Core.Path.{◌≡◌, refl, ap, subst, ◌∙◌}
use Prim.Native.Nat.{ℕ, suc, ◌+◌, ◌<◌}
use native.Mathlib.Numerals.{add-one}
use native.Mathlib.Omega.{arith}
use lib.ListN.{length}
use Rattle.verdict.specs.declared.Reason.{Reason}
use Rattle.verdict.specs.Check.{Check, first_fault}
use Rattle.verdict.proofs.FirstFault.{clear, grants, first_found}
use Rattle.profile.specs.declared.Profile.{Profile}
use Rattle.profile.specs.Areas.{areas_of}
use Rattle.packet.specs.declared.Kind.{Kind}
use Rattle.packet.specs.declared.Progress.{Progress}
use Rattle.packet.specs.declared.Progress.TheVariants.{Astray, Partial, Unfit, Complete, Excess}
use Rattle.packet.specs.Packet.{progress_of, is_complete}
use Rattle.packet.proofs.Laws.{impossible}
use Rattle.packet_fields.specs.declared.Com.TheVariants.{Write, Read}
use Rattle.packet_fields.specs.Fields.{com_number, com_of, code_at}
use Rattle.packet_reply.specs.Reply.{status_reply}
use Rattle.flash.specs.declared.Act.{Act}
use Rattle.flash.specs.declared.Act.TheVariants.{Nothing}
use Rattle.state.specs.declared.Awaited.{Awaited}
use Rattle.state.specs.declared.Awaited.TheVariants.{WakeUp, Packet}
use Rattle.state.specs.declared.Pulse.{Pulse}
use Rattle.state.specs.declared.Range.{Range}
use Rattle.state.specs.declared.Stage.{Stage}
use Rattle.state.specs.declared.Stage.TheVariants.{Setting, Command}
use Rattle.state.specs.declared.State.{State}
use Rattle.state.specs.Awaits.{awaits_of}
use Rattle.check_command.specs.Commands.{command_checks}
use Rattle.check_transfer.specs.Transfer.{write_checks, next_checks}
use Rattle.answer.specs.Answer.{Answer, moved}
use Rattle.answer_command.specs.Grants.{grant_of, answer_command}
use Rattle.answer_transfer.specs.Transfers.{read_packet, write_decided, answer_write, answer_next}
use Rattle.answer_waking.specs.Wake.{wake_of}
use Rattle.device_steps.specs.Step.{Machine, Step, settled, heard, step_in, step_of}
use Rattle.device_steps.specs.Feed.{Delivery, feed_of}
use Rattle.device_steps.specs.Records.{is_unfit, progress_in, heard_with, completes, refuses, Brings}
use Rattle.device_steps.proofs.Decided.{RefusedWith, command_refused, command_granted, command_told_lem, write_refused, write_granted, write_told, next_refused, next_granted, next_told}
use Rattle.device_steps.proofs.Delivered.{later, nothing, by_reply}
use Rattle.device_steps.proofs.Replies.{Unasked, unbrought, quiet_step}
use Rattle.record_history.specs.History.{hearing}
use Rattle.demands.specs.Line.{EachIn}
use Rattle.demands.specs.Demand2.{HeardAll, StopsBehind, GoesBy}

-- a byte more in front, which is not answered
module _ (p : Profile) (m : Machine) (b : ℕ) (bs : List ℕ) (quiet : length (step_of p m b).reply ≡ 0) where
  abbrev s : Machine
  s = (step_of p m b).machine

  heard_later : HeardAll p s bs (feed_of p s bs) → HeardAll p m (b ∷ bs) (later 1 (feed_of p s bs))
  unfolding EachIn hearing
  heard_later h =
      let k : length bs + 1 ≡ suc (length bs) = add-one (length bs) in
      record {
        quiet = (nothing (step_of p m b).reply quiet, h.quiet);
        is = ap (later 1) h.is ∙ ap (λ (n : ℕ). record { machine = hearing p s bs; reply = []; consumed = n }) k;
      }

  stops_later : StopsBehind p s bs (feed_of p s bs) → StopsBehind p m (b ∷ bs) (later 1 (feed_of p s bs))
  unfolding EachIn hearing
  stops_later h =
      let x : Step = step_of p (hearing p s h.before) h.byte in
      let k : length h.before + 1 + 1 ≡ suc (length h.before) + 1 = omega arith in
      record {
        before = b ∷ h.before;
        byte = h.byte;
        unread = h.unread;
        split = ap (λ (l : List ℕ). b ∷ l) h.split;
        quiet = (nothing (step_of p m b).reply quiet, h.quiet);
        answered = h.answered;
        is = ap (later 1) h.is ∙ ap (λ (n : ℕ). record { machine = x.machine; reply = x.reply; consumed = n }) k;
      }

pub feed_stops : (p : Profile) (m : Machine) (bs : List ℕ) → HeardAll p m bs (feed_of p m bs) ⊎ StopsBehind p m bs (feed_of p m bs)
unfolding feed_of EachIn hearing
feed_stops p m [] = inl (record { quiet = tt; is = refl })
feed_stops p m (b ∷ bs) =
    by_reply p m b bs (λ (d : Delivery). HeardAll p m (b ∷ bs) d ⊎ StopsBehind p m (b ∷ bs) d)
    (λ quiet. ⊎_elim (λ h. inl (heard_later p m b bs quiet h)) (λ h. inr (stops_later p m b bs quiet h)) (feed_stops p (step_of p m b).machine bs))
    (λ answered. inr (record { before = []; byte = b; unread = bs; split = refl; quiet = tt; answered = answered; is = refl }))

-- answers go by their checks
answer_eq : (a : Answer) (act : Act) (state : State) (reply : List ℕ) → a.act ≡ act → a.state ≡ state → a.reply ≡ reply
    → a ≡ record { act = act; state = state; reply = reply }
answer_eq a act state reply e f g =
    ap (λ (x : Act). record { act = x; state = a.state; reply = a.reply }) e
    ∙ ap (λ (x : State). record { act = act; state = x; reply = a.reply }) f
    ∙ ap (λ (x : List ℕ). record { act = act; state = state; reply = x }) g

goes_by : (checks : List (Check Reason)) (granted : Answer) (request : ℕ) (stage : Stage) (st : State) (a : Answer)
    → (first_fault checks ≡ None → a ≡ granted) → ((reason : Reason) → first_fault checks ≡ Some reason → RefusedWith request reason stage st a)
    → ((first_fault checks ≡ None) ↔ (code_at a.reply < 128)) → GoesBy checks granted request stage st a
goes_by checks granted request stage st a g r t =
    record {
      grants = λ n. g (grants checks n);
      refused = λ reason f.
          let w = r reason (first_found checks reason f) in
          answer_eq a Nothing (moved stage st) (status_reply request (Err reason)) w.act w.state w.reply;
      told = (λ h. clear checks (t.1 h), λ n. t.0 (grants checks n));
    }

module _ (p : Profile) (image : List ℕ) (st : State) where
  pub command_goes : (q : List ℕ) → GoesBy (command_checks p st q) (grant_of p image st q (com_of (code_at q))) (code_at q) st.stage st (answer_command p image st q)
  command_goes q = goes_by _ _ _ _ _ _ (command_granted p image st q) (command_refused p image st q) (command_told_lem p image st q)

  pub write_goes : (r : Range) (q : List ℕ)
      → GoesBy (write_checks (areas_of p) image r q) (write_decided st r q (Ok tt)) (com_number Write) Command st (answer_write p image st r q)
  unfolding write_decided
  write_goes r q = goes_by _ _ _ _ _ _ (write_granted p image st r q) (write_refused p image st r q) (write_told p image st r q)

  pub next_goes : (r : Range) (q : List ℕ) → GoesBy (next_checks q) (read_packet p image st r) (com_number Read) Command st (answer_next p image st r q)
  next_goes r q = goes_by _ _ _ _ _ _ (next_granted p image st r q) (next_refused p image st r q) (next_told p image st r q)

-- a byte that brings nothing where a packet is awaited
heard_image : (p : Profile) (m : Machine) (q : List ℕ) (x : Progress) → is_complete x ≡ false → is_unfit x ≡ false → (heard p m q x).machine.image ≡ m.image
unfolding heard
heard_image p m q Astray c u = refl
heard_image p m q Partial c u = refl
heard_image p m q Unfit c u = impossible (cc)
heard_image p m q Complete c u = impossible (cc)
heard_image p m q Excess c u = refl

module _ (p : Profile) (m : Machine) (b : ℕ) where
  image_in : (kind : Kind) (a : Awaited) → a ≡ Packet kind → is_complete (progress_in a (heard_with m b)) ≡ false → is_unfit (progress_in a (heard_with m b)) ≡ false
      → (step_in p m a b).machine.image ≡ m.image
  unfolding step_in progress_in
  image_in kind (WakeUp u) e c f = impossible (cc)
  image_in kind (Packet other) e c f = heard_image p m (heard_with m b) (progress_of other (heard_with m b)) c f

  pub quiet_byte : (kind : Kind) → awaits_of m.state.stage ≡ Packet kind → (Brings m b → ⊥)
      → ((step_of p m b).reply ≡ []) × ((step_of p m b).machine.image ≡ m.image)
  unfolding step_of completes refuses
  quiet_byte kind e n =
      let u = unbrought m b n in
      (subst (λ (a : Awaited). Unasked a (step_of p m b).reply) e (quiet_step p m b u.0 u.1), image_in kind (awaits_of m.state.stage) e u.0 u.1)

  pub waking_byte : (pulse : Pulse) → m.state.stage ≡ Setting pulse → step_of p m b ≡ settled p m [] (wake_of p m.image m.state pulse b)
  unfolding step_of step_in
  waking_byte pulse e = ap (λ (s : Stage). step_in p m (awaits_of s) b) e
