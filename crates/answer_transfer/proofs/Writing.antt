-- A packet of a write that was granted, put together from its parts. Assumes nothing.
use mathlib.Core.List.{List}
use mathlib.Core.Path.{◌≡◌, sym, ap, ◌∙◌}
use Prim.Native.Nat.{ℕ, ◌≤◌}
use Rattle.verdict.specs.Check.{first_fault, verdict_of, Verdict}
use Rattle.verdict.proofs.FirstFault.{granted_clear}
use Rattle.profile.specs.declared.Profile.{Profile}
use Rattle.profile.specs.Areas.{areas_of}
use Rattle.packet_fields.specs.Fields.{info_count}
use Rattle.packet_reply.specs.Reply.{status_reply}
use Rattle.flash.specs.declared.Act.TheVariants.{Store}
use Rattle.state.specs.declared.Range.{Range}
use Rattle.state.specs.declared.Stage.{Stage}
use Rattle.state.specs.declared.Stage.TheVariants.{Writing}
use Rattle.state.specs.declared.State.{State}
use Rattle.check_transfer.specs.Transfer.{write_checks}
use Rattle.check_transfer.proofs.WriteGranted.{write_most}
use Rattle.answer.specs.declared.Answered.{Answered}
use Rattle.answer.specs.Answer.{moved, Answers}
use Rattle.answer.proofs.Sending.{answers_as}
use Rattle.std.specs.Prelude.{Ok}
use Rattle.answer_transfer.specs.Transfers.{after, write_decided, answer_write}

-- data that was granted is no more than is left
pub data_fits : (p : Profile) (image : List ℕ) (range : Range) (q : List ℕ) {v : Verdict} → v ≡ verdict_of (first_fault (write_checks (areas_of p) image range q))
    → v ≡ Ok tt → info_count q ≤ range.left
data_fits p image range q e g = write_most (areas_of p) image range q (granted_clear _ (sym e ∙ g))

module _ (st : State) (range : Range) (q : List ℕ) {r : Answered} {before behind : List ℕ} where
  -- the count and the stage behind it make the answer
  pub data_stored : {n : ℕ} {stage : Stage} {next : State} → n ≡ info_count q → stage ≡ after Writing range n → next ≡ moved stage st
      → Answers (record { act = Store range.next n; state = next; reply = status_reply 0x13 (Ok tt) }) r before behind
      → Answers (write_decided st range q (Ok tt)) r before behind
  unfolding write_decided
  data_stored count stage state s = answers_as (rw (state, stage, count)) s

  -- the verdict decides
  pub write_answered : (p : Profile) (image : List ℕ) {v : Verdict} → v ≡ verdict_of (first_fault (write_checks (areas_of p) image range q))
      → Answers (write_decided st range q v) r before behind → Answers (answer_write p image st range q) r before behind
  unfolding answer_write
  write_answered p image e s = answers_as (ap (write_decided st range q) e) s
