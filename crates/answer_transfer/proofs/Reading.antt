-- The next packet of a read, put together from its parts. Assumes nothing.
use mathlib.Core.List.{List}
use mathlib.Core.Path.{◌≡◌, refl, ap}
use Prim.Native.Nat.{ℕ, ◌≤◌}
use native.Mathlib.Omega.{arith}
use lib.ListN.{length}
use Rattle.verdict.specs.Check.{first_fault, verdict_of, Verdict}
use Rattle.profile.specs.declared.Profile.{Profile}
use Rattle.profile.specs.Areas.{areas_of}
use Rattle.packet.specs.Frame.{longest_data}
use Rattle.packet_reply.specs.Reply.{data_reply}
use Rattle.flash.specs.declared.Act.TheVariants.{Nothing}
use Rattle.flash.specs.Effects.{fetched}
use Rattle.flash.proofs.ByAddress.{fetched_most}
use Rattle.state.specs.declared.Range.{Range}
use Rattle.state.specs.declared.Stage.{Stage}
use Rattle.state.specs.declared.Stage.TheVariants.{Reading}
use Rattle.state.specs.declared.State.{State}
use Rattle.check_transfer.specs.Transfer.{next_checks}
use Rattle.answer.specs.declared.Answered.{Answered}
use Rattle.answer.specs.Answer.{moved, Answers}
use Rattle.answer.proofs.Sending.{answers_as}
use Rattle.std.specs.Prelude.{Ok, Err}
use Rattle.answer_transfer.specs.Transfers.{after, read_count, read_packet, next_decided, answer_next}

-- the bytes that are fetched for a packet fit into one
pub packet_fits : (p : Profile) (image : List ℕ) (range : Range) {n : ℕ} {bytes : List ℕ} → bytes ≡ fetched (areas_of p) range.next n image
    → n ≤ longest_data → length bytes ≤ longest_data
packet_fits p image range {n} e h =
    let k : length (fetched (areas_of p) range.next n image) ≤ n = fetched_most (areas_of p) range.next n image in
    rw e (omega arith)

module _ (p : Profile) (image : List ℕ) (st : State) (range : Range) {r : Answered} {before behind : List ℕ} where
  -- the count, the bytes and the stage behind them make the packet
  pub packet_read : {n : ℕ} {bytes : List ℕ} {stage : Stage} {next : State} → n ≡ read_count range → bytes ≡ fetched (areas_of p) range.next n image
      → stage ≡ after Reading range n → next ≡ moved stage st → Answers (record { act = Nothing; state = next; reply = data_reply 0x15 bytes }) r before behind
      → Answers (read_packet p image st range) r before behind
  unfolding read_packet
  packet_read count bytes stage state s = answers_as (rw (state, stage, bytes, count)) s

  -- the verdict decides
  pub next_answered : (q : List ℕ) {v : Verdict} → v ≡ verdict_of (first_fault (next_checks q)) → Answers (next_decided p image st range v) r before behind
      → Answers (answer_next p image st range q) r before behind
  unfolding answer_next
  next_answered q e s = answers_as (ap (next_decided p image st range) e) s

-- a packet in a read has no act
pub next_act : (p : Profile) (image : List ℕ) (st : State) (r : Range) (q : List ℕ) → (answer_next p image st r q).act ≡ Nothing
unfolding answer_next next_decided read_packet
next_act p image st r q = by (verdict_of (first_fault (next_checks q)))
  where
    by : (v : Verdict) → (next_decided p image st r v).act ≡ Nothing
    by (Ok tt) = refl
    by (Err reason) = refl
