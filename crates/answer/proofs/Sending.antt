-- A reply that has room stands at the buffer's front, as long as its packet: it answers, with the act and the state that go with it. Assumes nothing.
use mathlib.Core.Bool.{true}
use mathlib.Core.List.{List}
use mathlib.Core.Path.{◌≡◌, refl, sym, subst, ◌∙◌}
use Prim.Native.Nat.{ℕ, ◌+◌, ◌≤◌}
use native.Mathlib.Omega.{arith}
use lib.ListN.{length}
use Rattle.std.specs.Prelude.{Option, Some}
use Rattle.std.specs.Option.{IsSome}
use Rattle.packet.specs.declared.Kind.TheVariants.{Data}
use Rattle.packet.specs.Packet.{frame}
use Rattle.packet.specs.Frame.{longest_data, Roomy, has_room, Framed}
use Rattle.packet.proofs.Frames.{frame_length}
use Rattle.packet.proofs.Building.{room}
use Rattle.packet.proofs.Framed.{answered, packet_length}
use Rattle.flash.specs.declared.Act.{Act}
use Rattle.state.specs.declared.State.{State}
use Rattle.answer.specs.declared.Answered.{Answered}
use Rattle.answer.specs.Answer.{Answer, Answers}

module _ (contents before after : List ℕ) (r : Option ℕ) (h : 1 ≤ length contents) (k : length contents ≤ longest_data + 1) (l : Roomy before)
    (p : Framed Data contents before after r) where
  roomy : has_room Data contents before ≡ true
  roomy = room Data contents before h k (omega arith)

  -- there is a reply
  pub is_sent : IsSome r
  is_sent = rw (answered Data contents before after r roomy p) refl

  pub sent : (n : ℕ) (act : Act) (st : State) → r ≡ Some n
      → Answers (record { act = act; state = st; reply = frame Data contents }) (record { act = act; state = st; count = n }) before after
  sent n act st e = record {
    act = refl;
    state = refl;
    count = packet_length Data contents before after n (rw e at p) ∙ sym (frame_length Data contents);
    reply = rw roomy at p.leaves;
  }

-- what answers one definition answers an equal one
pub answers_as : {a a' : Answer} {r : Answered} {before after : List ℕ} → a ≡ a' → Answers a r before after → Answers a' r before after
answers_as {r = r} {before = before} {after = after} e s = subst (λ (x : Answer). Answers x r before after) e s
