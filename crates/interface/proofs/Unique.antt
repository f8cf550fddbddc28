-- No second answer satisfies what the calls from outside promise, but for received bytes beyond the held ones; a payload is the part that is named. Assumes nothing.
use mathlib.Core.Bool.{Bool, true, false, cond}
use mathlib.Core.List.{List, [], ◌∷◌}
use mathlib.Core.Path.{◌≡◌, refl, sym, ap, ◌∙◌}
use Prim.Native.Nat.{ℕ}
use native.Mathlib.Omega.{arith}
use lib.ListN.{length, take, drop}
use lib.Dec.{leb, eqb}
use borrow.Author.Tests.{eqb-true, leb-true, leb-false}
use Rattle.verdict.proofs.OneAnswer.{one_answer}
use Rattle.packet.specs.Packet.{good, payload_of, payload_at}
use Rattle.packet.proofs.Contents.{payload_short, payload_none, payload_at_part, payload_there}
use Rattle.device_calls.specs.Calls.{is_accepted, Refusal}
use Rattle.device_steps.specs.Feed.{Delivery}
use Rattle.interface.specs.Calls.{LentBytes}
use Rattle.std.specs.Prelude.{Ok, Err}
use Rattle.interface.specs.Post.{Numbers, StartedBytes, ResetBytes, FedBytes, Handed}

-- starting and resetting: the same number and the same bytes
module _ (profile : List ℕ) (n : ℕ) (before after after' : List ℕ) (r r' : ℕ) where
  pub started_once : StartedBytes profile n before after r → StartedBytes profile n before after' r' → (r ≡ r') × (after ≡ after')
  started_once a b = (one_answer a.number b.number, one_answer a.state b.state)

  pub reset_once : ResetBytes profile n before after r → ResetBytes profile n before after' r' → (r ≡ r') × (after ≡ after')
  reset_once a b = (one_answer a.number b.number, one_answer a.state b.state)

-- what two outcomes of a feed have in common: all but the received bytes beyond the held ones
pub record Same (d : Delivery) (after after' : LentBytes) (r r' : Numbers) : Type 0 where
  pub numbers : r ≡ r'
  pub state : after.state ≡ after'.state
  pub image : after.image ≡ after'.image
  pub held : take d.machine.state.held after.receive ≡ take d.machine.state.held after'.receive
  pub reply : after.reply ≡ after'.reply

-- feeding, for the same bytes at entry
module _ (d : Delivery) (input : List ℕ) (before : LentBytes) where
  pub fed_once : (row : Refusal) (after after' : LentBytes) (r r' : Numbers) → FedBytes row d input before after r → FedBytes row d input before after' r'
      → Same d after after' r r'
  fed_once (Ok tt) after after' r r' a b =
      record {
        numbers = one_answer a.is b.is;
        state = one_answer a.state b.state;
        image = one_answer a.image b.image;
        held = one_answer a.held b.held;
        reply = one_answer a.reply b.reply;
      }
  fed_once (Err row) after after' r r' a b =
      let e : after ≡ after' = one_answer a.lent b.lent in
      record {
        numbers = one_answer a.is b.is;
        state = ap (λ (l : LentBytes). l.state) e;
        image = ap (λ (l : LentBytes). l.image) e;
        held = ap (λ (l : LentBytes). take d.machine.state.held l.receive) e;
        reply = ap (λ (l : LentBytes). l.reply) e;
      }

  -- a refused feed leaves the whole receive buffer, and so does empty input
  pub refused_received : (row : Refusal) (after : LentBytes) (r : Numbers) → is_accepted row ≡ false → FedBytes row d input before after r
      → after.receive ≡ before.receive
  refused_received (Ok tt) after r e a = let z : ◌≡◌ {A = ℕ} 0 1 = cc in absurd (omega arith)
  refused_received (Err row) after r e a = ap (λ (l : LentBytes). l.receive) a.lent

  pub idle_received : (row : Refusal) (after : LentBytes) (r : Numbers) → length input ≡ 0 → FedBytes row d input before after r
      → after.receive ≡ before.receive
  idle_received (Ok tt) after r e a = a.idle e
  idle_received (Err row) after r e a = ap (λ (l : LentBytes). l.receive) a.lent

-- where a payload stands
pub handed_once : (receive : List ℕ) (n r r' from from' got got' : ℕ) → Handed receive n r from got → Handed receive n r' from' got'
    → (r ≡ r') × ((from ≡ from') × (got ≡ got'))
handed_once receive n r r' from from' got got' a b =
    (one_answer a.answer b.answer, (one_answer a.start b.start, one_answer a.count b.count))

-- the answers 0 and 1
abbrev answer_of : Bool → ℕ
answer_of t = cond t 0 1

abbrev start_at : Bool → ℕ
start_at t = cond t 0 3

answers_0 : (l : List ℕ) → [] ≡ l → answer_of (eqb (length l) 0) ≡ 1 → ⊥
answers_0 l e h = let z : ◌≡◌ {A = ℕ} 0 1 = ap (λ (k : List ℕ). answer_of (eqb (length k) 0)) e ∙ h in omega arith

answers_1 : (t : Bool) → answer_of t ≡ 1 → start_at t ≡ 3
answers_1 true h = absurd (omega (arith, h))
answers_1 false h = refl

answers_none : (t : Bool) → answer_of t ≡ 0 → t ≡ true
answers_none true h = refl
answers_none false h = absurd (omega (arith, h))

no_bytes : (l : List ℕ) → length l ≡ 0 → l ≡ []
no_bytes [] e = refl
no_bytes (x ∷ l) e = absurd (omega (arith, e))

-- the answer 1: so many bytes from the start on are the payload
module _ (receive : List ℕ) (n r from got : ℕ) (a : Handed receive n r from got) where
  pub handed_part : r ≡ 1 → take got (drop from receive) ≡ payload_of receive n
  handed_part h = by (leb n (length receive)) refl (good (take n receive)) refl
    where
      one : answer_of (eqb (length (payload_of receive n)) 0) ≡ 1
      one = sym a.answer ∙ h

      three : from ≡ 3
      three = a.start ∙ answers_1 (eqb (length (payload_of receive n)) 0) one

      by : (t : Bool) → leb n (length receive) ≡ t → (g : Bool) → good (take n receive) ≡ g → take got (drop from receive) ≡ payload_of receive n
      by false t g e = absurd (answers_0 (payload_of receive n) (payload_short receive n (leb-false n (length receive) t)) one)
      by true t false e = absurd (answers_0 (payload_of receive n) (payload_none receive n (leb-true n (length receive) t) e) one)
      by true t true e =
          let at : from ≡ payload_at receive n = three ∙ sym (payload_at_part receive n (leb-true n (length receive) t) e) in
          rw (a.count, at) (sym (payload_there receive n))

  -- the answer 0: there is none
  pub handed_none : r ≡ 0 → (payload_of receive n ≡ []) × ((from ≡ 0) × (got ≡ 0))
  handed_none h =
      let t : eqb (length (payload_of receive n)) 0 ≡ true = answers_none (eqb (length (payload_of receive n)) 0) (sym a.answer ∙ h) in
      let z : length (payload_of receive n) ≡ 0 = eqb-true (length (payload_of receive n)) 0 t in
      (no_bytes (payload_of receive n) z, (a.start ∙ ap start_at t, a.count ∙ z))
