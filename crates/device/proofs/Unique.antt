-- No second outcome satisfies what starting, resetting and feeding promise. Assumes nothing.
use mathlib.Core.Bool.{false}
use mathlib.Core.List.{List}
use mathlib.Core.Path.{◌≡◌, sym, ap, ◌∙◌}
use Prim.Native.Nat.{ℕ}
use native.Mathlib.Omega.{arith}
use lib.ListN.{length}
use Rattle.verdict.proofs.OneAnswer.{one_answer}
use Rattle.profile.specs.declared.Profile.{Profile}
use Rattle.state.specs.declared.State.{State}
use Rattle.state.specs.State.{zero_state}
use Rattle.device_calls.specs.declared.Started.{Started}
use Rattle.device_calls.specs.Calls.{Lent, is_accepted, Starts, Refusal}
use Rattle.device_steps.specs.Feed.{Delivery}
use Rattle.device.specs.declared.Fed.{Fed}
use Rattle.std.specs.Prelude.{Ok, Err}
use Rattle.device.specs.Post.{FedBy}

-- starting and resetting
module _ (p : Profile) (image : List ℕ) where
  pub started_once : (r r' : Started) → Starts p (length image) zero_state r → Starts p (length image) zero_state r' → r ≡ r'
  started_once r r' e f = one_answer e.is f.is

  pub reset_once : (st : State) (r r' : Started) → Starts p (length image) st r → Starts p (length image) st r' → r ≡ r'
  reset_once st r r' e f = one_answer e.is f.is

-- of a feed, the receive buffer beyond the held bytes is the one thing that two outcomes may differ in (`feeds_once`, demands): not where it is refused,
-- nor without input
module _ (d : Delivery) (input : List ℕ) (st : State) (before after after' : Lent) (r r' : Fed) where
  -- a refused feed fixes the whole receive buffer
  pub refused_received : (refusal : Refusal) → is_accepted refusal ≡ false → FedBy refusal d input st before after r → FedBy refusal d input st before after' r'
      → after.receive ≡ after'.receive
  refused_received (Ok tt) e a b = let z : ◌≡◌ {A = ℕ} 0 1 = cc in absurd (omega arith)
  refused_received (Err row) e a b = ap (λ (l : Lent). l.receive) (a.lent ∙ sym b.lent)

-- empty input fixes it too, and changes nothing at all
pub idle_received : (refusal : Refusal) (d : Delivery) (input : List ℕ) (st : State) (before after : Lent) (r : Fed) → length input ≡ 0
    → FedBy refusal d input st before after r → after.receive ≡ before.receive
idle_received (Ok tt) d input st before after r e a = a.idle e
idle_received (Err row) d input st before after r e a = ap (λ (l : Lent). l.receive) a.lent
