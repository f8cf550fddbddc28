-- The core of demand 3: the act that the device performs for a complete packet is the act that the replay reads out of the packet and its reply.
-- Assumes nothing.
use mathlib.Core.Bool.{Bool, true, false, cond}
use mathlib.Core.List.{List}
use Rattle.std.specs.Prelude.{None, Option, Some, Ok, Err}
use mathlib.Core.Path.{◌≡◌, refl, sym, ap, subst, ◌∙◌}
use Prim.Native.Nat.{ℕ, ◌+◌}
use lib.Dec.{eqb}
use borrow.Author.Tests.{eq-eqb}
use Rattle.numbers.specs.Same.{same}
use Rattle.numbers.proofs.Same.{same_eq, same_refl}
use Rattle.verdict.specs.declared.Reason.{Reason}
use Rattle.verdict.specs.Check.{first_fault, verdict_of, Verdict}
use Rattle.verdict.proofs.FirstFault.{granted_clear}
use Rattle.id_code.specs.Identity.{erase_code, total_erase, id_checks}
use Rattle.id_code.proofs.Codes.{erase_granted}
use Rattle.profile.specs.declared.Profile.{Profile}
use Rattle.profile.specs.Areas.{areas_of}
use Rattle.packet.specs.declared.Kind.{Kind}
use Rattle.packet.specs.declared.Kind.TheVariants.{Command as CommandPacket, Data as DataPacket}
use Rattle.packet.specs.declared.Progress.TheVariants.{Complete}
use Rattle.packet.specs.Packet.{progress_of, ending_checks, ends_well, good}
use Rattle.packet.proofs.Laws.{impossible}
use Rattle.packet.proofs.Gathering.{whole, good_so}
use Rattle.flash.specs.declared.Act.TheVariants.{EraseAll}
use Rattle.packet_fields.specs.declared.Com.{Com}
use Rattle.packet_fields.specs.declared.Com.TheVariants.{Inquiry, Erase, Write, Read, Authenticate, Baud, Signature, Area, Unknown}
use Rattle.packet_fields.specs.Fields.{com_of, code_at, info_count, info_of, info_length}
use Rattle.packet_reply.specs.Reply.{status_reply}
use Rattle.packet_reply.proofs.Replies.{told_apart}
use Rattle.state.specs.declared.Range.{Range}
use Rattle.state.specs.declared.Stage.{Stage}
use Rattle.state.specs.declared.Stage.TheVariants.{Setting, Authentication, Command, Writing, Reading}
use Rattle.state.specs.declared.State.{State}
use Rattle.state.specs.Awaits.{awaits_of}
use Rattle.state.specs.State.{fresh_state}
use Rattle.check_command.specs.Commands.{own_checks, command_checks}
use Rattle.check_command.proofs.Granted.{ending_clear, own_clear, granted_form}
use Rattle.check_transfer.specs.Transfer.{write_checks, next_checks}
use Rattle.check_transfer.proofs.WriteGranted.{write_ends, write_code, next_code}
use Rattle.answer.specs.Answer.{Answer}
use Rattle.answer_transfer.specs.Transfers.{rest_of, after, read_count, read_packet, write_decided, answer_write, next_decided, answer_next}
use Rattle.answer_command.specs.Grants.{entered, grant_of, decided, answer_command}
use Rattle.device_steps.specs.Step.{answer_of}
use Rattle.device_steps.specs.Records.{progress_in}
use Rattle.device_steps.proofs.Settles.{either}
use Rattle.record_exchange.specs.declared.Told.{Told}
use Rattle.record_exchange.specs.Exchange.{answered_ok, idle, command_told, command_read, data_told, data_read, exchange_read}
use Rattle.record_exchange.proofs.Answered.{unanswered, asks_next_lem}

-- while a write is under way, the replay's next data lands at the range's next address
abbrev pub Follows : Stage → Option ℕ → Type 0
Follows (Setting u) l = Unit {0}
Follows Authentication l = Unit {0}
Follows Command l = Unit {0}
Follows (Writing r) l = l ≡ Some r.next
Follows (Reading r) l = Unit {0}

-- what is read out of the packet q and the answer's reply: the answer's act, and a landing place that follows its state
pub record Agrees (l : Option ℕ) (q : List ℕ) (a : Answer) : Type 0 where
  pub act : (exchange_read q a.reply l).act ≡ a.act
  pub follows : Follows a.state.stage (exchange_read q a.reply l).landing

-- by what the exchange is read as
read_as : {l : Option ℕ} {q : List ℕ} {a : Answer} (told : Told) → exchange_read q a.reply l ≡ told → told.act ≡ a.act
    → Follows a.state.stage told.landing → Agrees l q a
read_as {a = a} told e same_act f =
    record { act = ap (λ (t : Told). t.act) e ∙ same_act; follows = subst (λ (t : Told). Follows a.state.stage t.landing) (sym e) f }

-- a refused request is not answered OK
not_ok : (q : List ℕ) (res : ℕ) (reason : Reason) → answered_ok q (status_reply res (Err reason)) ≡ false
unfolding answered_ok
not_ok q res reason = by (answered_ok q (status_reply res (Err reason))) refl
  where
    by : (t : Bool) → answered_ok q (status_reply res (Err reason)) ≡ t → t ≡ false
    by true e = absurd (told_apart (code_at q) res reason (sym (same_eq (status_reply res (Err reason)) (status_reply (code_at q) (Ok tt)) e)))
    by false e = refl

pub passed_over : (q : List ℕ) (res : ℕ) (reason : Reason) (l : Option ℕ) → exchange_read q (status_reply res (Err reason)) l ≡ idle l
passed_over q res reason l = unanswered q (status_reply res (Err reason)) l (not_ok q res reason)

-- a complete packet that ends well is good
ends_good : (kind : Kind) (q : List ℕ) → progress_of kind q ≡ Complete → first_fault (ending_checks q) ≡ None → good q ≡ true
unfolding ends_well
ends_good kind q c e = good_so kind q c (rw e refl)

after_follows : (going : Range → Stage) (r : Range) (n : ℕ) (l : Option ℕ) → Follows (going (rest_of r n)) l → Follows (after going r n) l
unfolding after
after_follows going r n l h = either (λ (s : Stage). Follows s l) Command (going (rest_of r n)) (eqb r.left n) tt h

cond_same : {A : Type 0} (t : Bool) (a : A) → cond t a a ≡ a
cond_same true a = refl
cond_same false a = refl

-- a complete command
module _ (p : Profile) (image : List ℕ) (st : State) (l : Option ℕ) (q : List ℕ) (c : progress_of CommandPacket q ≡ Complete) where
  as_command : (reply : List ℕ) → exchange_read q reply l ≡ cond (good q) (command_read q reply l) (idle l)
  unfolding exchange_read
  as_command reply = rw (whole CommandPacket q c).start refl

  -- one that tells of nothing, whatever it is answered
  tells_nothing : (reply : List ℕ) → command_told q (com_of (code_at q)) l ≡ idle l → exchange_read q reply l ≡ idle l
  unfolding command_read
  tells_nothing reply e = as_command reply ∙ simp (e, cond_same)

  -- one that is granted, and answered OK
  module _ (g : first_fault (command_checks p st q) ≡ None) where
    tells : (cmd : Com) → com_of (code_at q) ≡ cmd → exchange_read q (status_reply (code_at q) (Ok tt)) l ≡ command_told q cmd l
    unfolding command_read answered_ok
    tells cmd e =
        as_command (status_reply (code_at q) (Ok tt))
        ∙ rw (
          ends_good CommandPacket q c (ending_clear p st q g),
          eq-eqb (info_count q) (info_length (com_of (code_at q))) (granted_form p st q g).counted,
          same_refl (status_reply (code_at q) (Ok tt)),
          e,
        )
        refl

    codes_clear : com_of (code_at q) ≡ Authenticate → first_fault (id_checks st.id (info_of q)) ≡ None
    unfolding own_checks
    codes_clear e = ap (λ (k : Com). first_fault (own_checks p st k q)) (sym e) ∙ own_clear p st q g

    -- the device tells a total erase by the code and bit 126, the replay by the code alone: a granted code is no other
    same_erase : com_of (code_at q) ≡ Authenticate → total_erase st.id (info_of q) ≡ same (info_of q) erase_code
    unfolding total_erase
    same_erase e = by (same (info_of q) erase_code) refl
      where
        by : (t : Bool) → same (info_of q) erase_code ≡ t → total_erase st.id (info_of q) ≡ t
        by true s = erase_granted st.id (info_of q) (codes_clear e) s
        by false s = rw s refl

    entered_law : com_of (code_at q) ≡ Authenticate → Agrees l q (entered p st q)
    unfolding entered command_told fresh_state
    entered_law e = by (same (info_of q) erase_code) refl
      where
        by : (t : Bool) → same (info_of q) erase_code ≡ t → Agrees l q (entered p st q)
        by true s = rw (same_erase e ∙ s) (read_as (record { act = EraseAll; landing = l }) (tells Authenticate e ∙ rw s refl) refl tt)
        by false s = rw (same_erase e ∙ s) (read_as (idle l) (tells Authenticate e ∙ rw s refl) refl tt)

    grant_law : Follows st.stage l → (cmd : Com) → com_of (code_at q) ≡ cmd → Agrees l q (grant_of p image st q cmd)
    unfolding grant_of read_packet command_told
    grant_law h Inquiry e = read_as (idle l) (tells_nothing _ (rw e refl)) refl h
    grant_law h Erase e = read_as _ (tells Erase e) refl h
    grant_law h Write e = read_as _ (tells Write e) refl refl
    grant_law h Read e = read_as (idle l) (tells_nothing _ (rw e refl)) refl (after_follows Reading _ _ l tt)
    grant_law h Authenticate e = entered_law e
    grant_law h Baud e = read_as (idle l) (tells_nothing _ (rw e refl)) refl h
    grant_law h Signature e = read_as (idle l) (tells_nothing _ (rw e refl)) refl h
    grant_law h Area e = read_as (idle l) (tells_nothing _ (rw e refl)) refl h
    grant_law h Unknown e = read_as (idle l) (tells_nothing _ (rw e refl)) refl h

  command_law : Follows st.stage l → Agrees l q (answer_command p image st q)
  unfolding answer_command decided
  command_law h = by (verdict_of (first_fault (command_checks p st q))) refl
    where
      by : (v : Verdict) → verdict_of (first_fault (command_checks p st q)) ≡ v → Agrees l q (decided p image st q v)
      by (Ok tt) e = grant_law (granted_clear _ e) h (com_of (code_at q)) refl
      by (Err reason) e = read_as (idle l) (passed_over q (code_at q) reason l) refl h

-- a complete packet of a write or of a read
module _ (p : Profile) (image : List ℕ) (st : State) (l : Option ℕ) (q : List ℕ) (c : progress_of DataPacket q ≡ Complete) (r : Range) where
  as_data : (reply : List ℕ) → exchange_read q reply l ≡ cond (good q) (data_read q reply l) (idle l)
  unfolding exchange_read
  as_data reply = rw (whole DataPacket q c).start refl

  write_granted : first_fault (write_checks (areas_of p) image r q) ≡ None → l ≡ Some r.next → Agrees l q (write_decided st r q (Ok tt))
  unfolding write_decided data_read data_told answered_ok
  write_granted g h =
      read_as (data_told q (Some r.next))
      (as_data (status_reply 0x13 (Ok tt))
      ∙ rw (
        ends_good DataPacket q c (write_ends (areas_of p) image r q g),
        write_code (areas_of p) image r q g,
        same_refl (status_reply 0x13 (Ok tt)),
        h,
      )
      refl)
      refl
      (after_follows Writing r (info_count q) (Some (r.next + info_count q)) refl)

  write_law : l ≡ Some r.next → Agrees l q (answer_write p image st r q)
  unfolding answer_write write_decided
  write_law h = by (verdict_of (first_fault (write_checks (areas_of p) image r q))) refl
    where
      by : (v : Verdict) → verdict_of (first_fault (write_checks (areas_of p) image r q)) ≡ v → Agrees l q (write_decided st r q v)
      by (Ok tt) e = write_granted (granted_clear _ e) h
      by (Err reason) e = read_as (idle l) (passed_over q 0x13 reason l) refl tt

  next_law : Agrees l q (answer_next p image st r q)
  unfolding answer_next next_decided read_packet
  next_law = by (verdict_of (first_fault (next_checks q))) refl
    where
      by : (v : Verdict) → verdict_of (first_fault (next_checks q)) ≡ v → Agrees l q (next_decided p image st r v)
      by (Ok tt) e =
          read_as (idle l) (asks_next_lem q _ l (next_code q (granted_clear _ e)) (whole DataPacket q c).start) refl (after_follows Reading r (read_count r) l tt)
      by (Err reason) e = read_as (idle l) (passed_over q 0x15 reason l) refl tt

-- a complete packet in any stage
pub same_act : (p : Profile) (image : List ℕ) (st : State) (l : Option ℕ) (q : List ℕ) → progress_in (awaits_of st.stage) q ≡ Complete → Follows st.stage l
    → Agrees l q (answer_of p image st st.stage q)
unfolding progress_in
same_act p image st l q c h = by st.stage refl c h
  where
    by : (s : Stage) → st.stage ≡ s → progress_in (awaits_of s) q ≡ Complete → Follows s l → Agrees l q (answer_of p image st s q)
    by (Setting u) e k f = impossible (cc)
    by Authentication e k f = command_law p image st l q k h
    by Command e k f = command_law p image st l q k h
    by (Writing r) e k f = write_law p image st l q k r f
    by (Reading r) e k f = next_law p image st l q k r
