-- Granted or refused: a complete packet is refused with its first fault, changing no byte, and granted exactly where no fault applies. Assumes nothing.
use mathlib.Core.Bool.{Bool, true, false, cond}
use mathlib.Core.List.{List, []}
use mathlib.Core.Logic.{◌⊎◌, ⊎_elim, ◌↔◌}
use Rattle.std.specs.Prelude.{Option, None, Some, Ok, Err}
use mathlib.Core.Path.{◌≡◌, refl, sym, ap, subst, ◌∙◌}
use Prim.Native.Nat.{ℕ, ◌+◌, ◌≤◌, ◌<◌}
use native.Mathlib.Omega.{arith}
use lib.ListN.{get_or}
use lib.Dec.{ltb}
use borrow.Author.Tests.{ltb-true, ltb-false}
use Rattle.numbers.specs.Bytes.{bytes_of}
use Rattle.verdict.specs.declared.Reason.{Reason}
use Rattle.verdict.specs.Check.{Check, first_fault, NoneApplies, verdict_of, Verdict}
use Rattle.verdict.proofs.FirstFault.{clear, grants}
use Rattle.profile.specs.declared.Profile.{Profile}
use Rattle.profile.specs.Areas.{areas_of}
use Rattle.packet.specs.declared.Progress.{Progress}
use Rattle.packet.specs.declared.Progress.TheVariants.{Astray, Partial, Unfit, Complete, Excess}
use Rattle.packet.specs.Packet.{progress_of, is_complete, frame}
use Rattle.packet.proofs.Gathering.{is_complete_lem}
use Rattle.packet.proofs.Laws.{impossible}
use Rattle.packet_reply.specs.Reply.{marked, res_of, status_reply}
use Rattle.id_code.specs.Identity.{total_erase}
use Rattle.packet_fields.specs.declared.Com.{Com}
use Rattle.packet_fields.specs.declared.Com.TheVariants.{Inquiry, Erase, Write, Read, Authenticate, Baud, Signature, Area, Unknown}
use Rattle.state.specs.declared.Range.{Range}
use Rattle.state.specs.declared.Stage.{Stage}
use Rattle.state.specs.declared.Stage.TheVariants.{Authentication, Command, Writing, Reading}
use Rattle.state.specs.declared.State.{State}
use Rattle.state.specs.declared.Awaited.{Awaited}
use Rattle.state.specs.declared.Awaited.TheVariants.{WakeUp, Packet}
use Rattle.state.specs.Awaits.{awaits_of}
use Rattle.packet_fields.specs.Fields.{com_of, code_at, info_count, info_of}
use Rattle.check_command.specs.Commands.{command_checks}
use Rattle.state.specs.State.{fresh_state}
use Rattle.check_transfer.specs.Transfer.{write_checks, next_checks}
use Rattle.packet_fields.proofs.Laws.{com_unknown}
use Rattle.check_command.proofs.Granted.{granted_form}
use Rattle.flash.specs.declared.Act.TheVariants.{Nothing, EraseAll, Store}
use Rattle.answer.specs.Answer.{Answer, moved}
use Rattle.answer_transfer.specs.Transfers.{after, read_packet, write_decided, answer_write, next_decided, answer_next}
use Rattle.answer_command.specs.Grants.{told, entered, grant_of, decided, answer_command}
use Rattle.device_steps.specs.Step.{Machine, settled, refused_early, answer_of, heard, step_in, step_of}
use Rattle.device_steps.specs.Records.{is_unfit, progress_in, heard_with, completes, refuses}

-- a refusal: its status reply; nothing is done to the flash, and only the stage changes
pub record RefusedWith (request : ℕ) (reason : Reason) (to : Stage) (st : State) (a : Answer) : Type 0 where
  pub reply : a.reply ≡ status_reply request (Err reason)
  pub act : a.act ≡ Nothing
  pub state : a.state ≡ moved to st

-- granted exactly where no fault applies
pub granted_exactly : {A : Type 0} (cs : List (Check A)) → (first_fault cs ≡ None) ↔ NoneApplies cs
granted_exactly cs = (clear cs, grants cs)

-- a complete command
module _ (p : Profile) (image : List ℕ) (st : State) (q : List ℕ) where
  abbrev checks : List (Check Reason)
  checks = command_checks p st q

  pub command_refused : (reason : Reason) → first_fault checks ≡ Some reason
      → RefusedWith (code_at q) reason st.stage st (answer_command p image st q)
  unfolding answer_command decided
  command_refused reason e =
      subst (λ (f : Option Reason). RefusedWith (code_at q) reason st.stage st (decided p image st q (verdict_of f))) (sym e)
      (record { reply = refl; act = refl; state = refl })

  pub command_granted : first_fault checks ≡ None → answer_command p image st q ≡ grant_of p image st q (com_of (code_at q))
  unfolding answer_command decided
  command_granted e = ap (λ (f : Option Reason). decided p image st q (verdict_of f)) e

-- a packet of a write that is under way
module _ (p : Profile) (image : List ℕ) (st : State) (r : Range) (q : List ℕ) where
  pub write_refused : (reason : Reason) → first_fault (write_checks (areas_of p) image r q) ≡ Some reason
      → RefusedWith 0x13 reason Command st (answer_write p image st r q)
  unfolding answer_write write_decided
  write_refused reason e =
      subst (λ (f : Option Reason). RefusedWith 0x13 reason Command st (write_decided st r q (verdict_of f))) (sym e)
      (record { reply = refl; act = refl; state = refl })

  pub write_granted : first_fault (write_checks (areas_of p) image r q) ≡ None
      → answer_write p image st r q
      ≡ record {
        act = Store r.next (info_count q);
        state = moved (after Writing r (info_count q)) st;
        reply = status_reply 0x13 (Ok tt);
      }
  unfolding answer_write write_decided
  write_granted e = ap (λ (f : Option Reason). write_decided st r q (verdict_of f)) e

  -- a request for the next packet of a read
  pub next_refused : (reason : Reason) → first_fault (next_checks q) ≡ Some reason → RefusedWith 0x15 reason Command st (answer_next p image st r q)
  unfolding answer_next next_decided
  next_refused reason e =
      subst (λ (f : Option Reason). RefusedWith 0x15 reason Command st (next_decided p image st r (verdict_of f))) (sym e)
      (record { reply = refl; act = refl; state = refl })

  pub next_granted : first_fault (next_checks q) ≡ None → answer_next p image st r q ≡ read_packet p image st r
  unfolding answer_next next_decided
  next_granted e = ap (λ (f : Option Reason). next_decided p image st r (verdict_of f)) e

-- the answer tells: RES has bit 7 where a packet is refused, and only there
abbrev pub res_at : List ℕ → ℕ
res_at reply = get_or reply 3 0

status_res : (request : ℕ) (v : Verdict) → res_at (status_reply request v) ≡ res_of request v
unfolding frame bytes_of
status_res request v = refl

marked_least : (n : ℕ) → 128 ≤ marked n
marked_least n = by_test (ltb n 128) refl
  where
    by_test : (t : Bool) → ltb n 128 ≡ t → 128 ≤ cond t (n + 128) n
    by_test true e = omega arith
    by_test false e = ltb-false n 128 e

refused_res : {request : ℕ} {reason : Reason} {to : Stage} {st : State} {a : Answer}
    → RefusedWith request reason to st a → 128 ≤ res_at a.reply
refused_res {request} {reason} r =
    let h : 128 ≤ marked request = marked_least request in
    rw (r.reply, status_res) h

-- the commands have numbers below 80h
known_small : (n : ℕ) → (com_of n ≡ Unknown → ⊥) → n < 128
known_small n known = by_test (ltb n 128) refl
  where
    by_test : (t : Bool) → ltb n 128 ≡ t → n < 128
    by_test true e = ltb-true n 128 e
    by_test false e =
        let h : 128 ≤ n = ltb-false n 128 e in
        absurd
        (known
        (com_unknown n (λ k. omega arith) (λ k. omega arith) (λ k. omega arith) (λ k. omega arith) (λ k. omega arith) (λ k. omega arith) (λ k. omega arith)
        (λ k. omega arith)))

entered_res : (p : Profile) (st : State) (q : List ℕ) → res_at (entered p st q).reply ≡ code_at q
unfolding entered
entered_res p st q = by_test (total_erase st.id (info_of q))
  where
    by_test : (t : Bool) → res_at (cond t (told q (Ok tt) EraseAll (fresh_state p)) (told q (Ok tt) Nothing (moved Command st))).reply ≡ code_at q
    by_test true = status_res (code_at q) (Ok tt)
    by_test false = status_res (code_at q) (Ok tt)

grant_res : (p : Profile) (image : List ℕ) (st : State) (q : List ℕ) → code_at q < 128 → (cmd : Com) → res_at (grant_of p image st q cmd).reply < 128
unfolding grant_of read_packet frame bytes_of
grant_res p image st q h Inquiry = h
grant_res p image st q h Erase = h
grant_res p image st q h Write = h
grant_res p image st q h Read = omega arith
grant_res p image st q h Authenticate = omega (arith, entered_res p st q)
grant_res p image st q h Baud = h
grant_res p image st q h Signature = omega arith
grant_res p image st q h Area = omega arith
grant_res p image st q h Unknown = h

-- where every refusal has the bit, and a grant doesn't, the answer is granted exactly without it
by_res : (cs : List (Check Reason)) (res : ℕ) → ((reason : Reason) → first_fault cs ≡ Some reason → 128 ≤ res) → (first_fault cs ≡ None → res < 128)
    → (first_fault cs ≡ None) ↔ (res < 128)
by_res cs res refused granted = (granted, λ h. by_fault (first_fault cs) refl h)
  where
    by_fault : (f : Option Reason) → first_fault cs ≡ f → res < 128 → first_fault cs ≡ None
    by_fault None e h = e
    by_fault (Some reason) e h = let k : 128 ≤ res = refused reason e in absurd (omega arith)

pub command_told_lem : (p : Profile) (image : List ℕ) (st : State) (q : List ℕ)
    → (first_fault (command_checks p st q) ≡ None) ↔ (res_at (answer_command p image st q).reply < 128)
command_told_lem p image st q =
    by_res (command_checks p st q) (res_at (answer_command p image st q).reply) (λ reason e. refused_res (command_refused p image st q reason e))
    (λ e.
    let h : code_at q < 128 = known_small (code_at q) (granted_form p st q e).known in
    rw (command_granted p image st q e) (grant_res p image st q h (com_of (code_at q))))

module _ (p : Profile) (image : List ℕ) (st : State) (r : Range) (q : List ℕ) where
  pub write_told : (first_fault (write_checks (areas_of p) image r q) ≡ None) ↔ (res_at (answer_write p image st r q).reply < 128)
  unfolding frame bytes_of
  write_told =
      by_res (write_checks (areas_of p) image r q) (res_at (answer_write p image st r q).reply) (λ reason e. refused_res (write_refused p image st r q reason e))
      (λ e. rw (write_granted p image st r q e) (omega arith))

  pub next_told : (first_fault (next_checks q) ≡ None) ↔ (res_at (answer_next p image st r q).reply < 128)
  unfolding read_packet frame bytes_of
  next_told =
      by_res (next_checks q) (res_at (answer_next p image st r q).reply) (λ reason e. refused_res (next_refused p image st r q reason e))
      (λ e. rw (next_granted p image st r q e) (omega arith))

-- which of the answers a byte brings
pub unfit_is : (x : Progress) → is_unfit x ≡ true → x ≡ Unfit
unfit_is Astray e = impossible (cc)
unfit_is Partial e = impossible (cc)
unfit_is Unfit e = refl
unfit_is Complete e = impossible (cc)
unfit_is Excess e = impossible (cc)

module _ (p : Profile) (m : Machine) (b : ℕ) where
  abbrev q : List ℕ
  q = heard_with m b

  complete_in : (a : Awaited) → is_complete (progress_in a q) ≡ true → step_in p m a b ≡ settled p m (info_of q) (answer_of p m.image m.state m.state.stage q)
  unfolding step_in heard progress_in
  complete_in (WakeUp u) e = impossible (cc)
  complete_in (Packet kind) e = ap (heard p m q) (is_complete_lem (progress_of kind q) e)

  -- a complete packet is answered as its stage says
  pub step_complete : completes m b ≡ true → step_of p m b ≡ settled p m (info_of q) (answer_of p m.image m.state m.state.stage q)
  unfolding step_of completes
  step_complete c = complete_in (awaits_of m.state.stage) c

  answered_in : (s : Stage) → m.state.stage ≡ s → completes m b ≡ true → step_of p m b ≡ settled p m (info_of q) (answer_of p m.image m.state s q)
  answered_in s e c = step_complete c ∙ ap (λ (g : Stage). settled p m (info_of q) (answer_of p m.image m.state g q)) e

  pub step_command : (m.state.stage ≡ Authentication) ⊎ (m.state.stage ≡ Command) → completes m b ≡ true
      → step_of p m b ≡ settled p m (info_of q) (answer_command p m.image m.state q)
  step_command s c = ⊎_elim (λ e. answered_in Authentication e c) (λ e. answered_in Command e c) s

  pub step_write : (r : Range) → m.state.stage ≡ Writing r → completes m b ≡ true
      → step_of p m b ≡ settled p m (info_of q) (answer_write p m.image m.state r q)
  step_write r e c = answered_in (Writing r) e c

  pub step_next : (r : Range) → m.state.stage ≡ Reading r → completes m b ≡ true
      → step_of p m b ≡ settled p m (info_of q) (answer_next p m.image m.state r q)
  step_next r e c = answered_in (Reading r) e c

  early_in : (a : Awaited) → is_unfit (progress_in a q) ≡ true → step_in p m a b ≡ settled p m [] (refused_early m.state)
  unfolding step_in heard progress_in
  early_in (WakeUp u) e = impossible (cc)
  early_in (Packet kind) e = ap (heard p m q) (unfit_is (progress_of kind q) e)

  -- an early refusal
  pub step_early : refuses m b ≡ true → step_of p m b ≡ settled p m [] (refused_early m.state)
  unfolding step_of refuses
  step_early e = early_in (awaits_of m.state.stage) e
