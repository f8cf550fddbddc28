-- What a call from outside leaves in the bytes, from what the device answered. Assumes nothing.
use mathlib.Core.Bool.{Bool, true, false, ◌||◌, cond}
use mathlib.Core.List.{List, ◌++◌}
use mathlib.Core.Path.{◌≡◌, refl, sym, ap, subst, ◌∙◌}
use Prim.Native.Nat.{ℕ}
use lib.ListN.{length}
use lib.Dec.{eqb}
use borrow.Author.Tests.{eq-eqb}
use Rattle.verdict.specs.Check.{first_fault}
use Rattle.profile.specs.declared.Profile.{Profile}
use Rattle.state.specs.declared.Stage.{Stage}
use Rattle.state.specs.declared.State.{State}
use Rattle.profile_bytes.specs.Profile.{profile_in}
use Rattle.state_bytes.specs.State.{state_length, stage_in, state_with, state_by, state_bytes, state_over}
use Rattle.device.specs.declared.Fed.{Fed}
use Rattle.state.specs.State.{zero_state}
use Rattle.device_calls.specs.declared.Row.{Row}
use Rattle.device_calls.specs.declared.Row.TheVariants.{Unacceptable, WrongImage, WrongState, ShortReceive, ShortReply}
use Rattle.device_calls.specs.declared.Started.{Started}
use Rattle.device_calls.specs.Calls.{Lent, buffers, row_number, number_of, start_rows, feed_rows, refusal_of, feed_refusal, started_at, started_by, Refusal}
use Rattle.device_steps.specs.Step.{machine_of}
use Rattle.device_steps.specs.Feed.{Delivery, feed_of}
use Rattle.device.specs.Post.{FedBy, Feeds}
use Rattle.interface.specs.Calls.{LentBytes, bytes, state_rows, feeding_rows, starting_refusal, feeding_refusal}
use Rattle.interface.specs.Post.{Numbers, numbers, StartedBytes, ResetBytes, reset_over, FedBytes, FeedsBytes, state_or, delivery_of}
use Rattle.std.specs.Prelude.{Option, Some, None, Ok, Err}
use Rattle.interface.proofs.Refusals.{accepted_room, feed_no_state, nowhere_refused}

always : (t : Bool) → (t || true) ≡ true
always true = refl
always false = refl

-- no row has the number of an accepted call
no_zero : (row : Row) → eqb (row_number row) 0 ≡ false
no_zero Unacceptable = refl
no_zero WrongImage = refl
no_zero WrongState = refl
no_zero ShortReceive = refl
no_zero ShortReply = refl

-- starting and resetting
module _ (profile : List ℕ) (n : ℕ) (before after : List ℕ)
    (begun : Started) (e : begun ≡ started_by (starting_refusal profile n (length before)) (profile_in profile) zero_state)
    (number : ℕ) (m : number ≡ number_of begun.refusal) where
  told : number ≡ number_of (starting_refusal profile n (length before))
  told = m ∙ ap (λ (x : Started). number_of x.refusal) e

  pub started : after ≡ cond (eqb number 0 || true) (state_over begun.state before) before → StartedBytes profile n before after number
  started w =
      let t = always (eqb number 0) in
      let put : after ≡ state_over begun.state before = rw t at w in
      record { number = told; state = put ∙ ap (λ (x : Started). state_over x.state before) e }

  left_by : (row : Refusal) → starting_refusal profile n (length before) ≡ row
      → after ≡ cond (eqb (number_of row) 0 || false) (state_over (started_at row (profile_in profile) zero_state) before) before
      → after ≡ reset_over row (profile_in profile) before
  left_by (Ok tt) a w = let t = eq-eqb (length before) state_length (accepted_room profile n (length before) a) in w ∙ simp t
  left_by (Err row) a w = w ∙ simp (no_zero row)

  pub was_reset : after ≡ cond (eqb number 0 || false) (state_over begun.state before) before → ResetBytes profile n before after number
  was_reset w =
      record {
        number = told;
        state =
            left_by (starting_refusal profile n (length before)) refl
            (w
            ∙ ap (λ (k : ℕ). cond (eqb k 0 || false) (state_over begun.state before) before) m
            ∙ ap (λ (x : Started). cond (eqb (number_of x.refusal) 0 || false) (state_over x.state before) before) e);
      }

-- three numbers by name
numbers_are : {number number' consumed consumed' sent sent' : ℕ} → number ≡ number' → consumed ≡ consumed' → sent ≡ sent'
    → numbers number consumed sent ≡ numbers number' consumed' sent'
numbers_are p q r = rw (p, q, r) refl

-- the buffers of a feed beside the state's bytes, and without them
abbrev beside : Lent → List ℕ → LentBytes
beside l state = bytes l.image state l.receive l.reply

abbrev without : LentBytes → Lent
without l = buffers l.image l.receive l.reply

-- what a feed of a state leaves in the bytes
abbrev FedState : Profile → State → List ℕ → LentBytes → LentBytes → Numbers → Type 0
FedState p st input before after r =
    FedBytes (feed_refusal p st (without before)) (feed_of p (machine_of st (without before)) input) input before after r

-- feeding a state that was found, from what the device's feed left
module _ (p : Profile) (st : State) (input : List ℕ) (before after : Lent) (fed : Fed) (state₀ state : List ℕ) (number : ℕ)
    (h : length state₀ ≡ state_length) (m : number ≡ number_of fed.refusal)
    (w : state ≡ cond (eqb number 0 || false) (state_over fed.state state₀) state₀) where
  by : (row : Refusal) (d : Delivery) → FedBy row d input st before after fed
      → FedBytes row d input (beside before state₀) (beside after state) (numbers number fed.consumed fed.count)
  by (Ok tt) d f =
      let z : number ≡ 0 = m ∙ ap (λ (x : Fed). number_of x.refusal) f.is in
      let t = eq-eqb (length state₀) state_length h in
      let over : state_over fed.state state₀ ≡ state_bytes fed.state = simp t in
      record {
        is = numbers_are z (ap (λ (x : Fed). x.consumed) f.is) (ap (λ (x : Fed). x.count) f.is);
        state = w ∙ ap (λ (k : ℕ). cond (eqb k 0 || false) (state_over fed.state state₀) state₀) z ∙ over ∙ ap (λ (x : Fed). state_bytes x.state) f.is;
        image = f.image;
        held = f.held;
        reply = f.reply;
        idle = f.idle;
      }
  by (Err row) d f =
      let z : number ≡ row_number row = m ∙ ap (λ (x : Fed). number_of x.refusal) f.is in
      let same : state ≡ state₀ = w ∙ simp (z, no_zero row) in
      record {
        is = numbers_are z (ap (λ (x : Fed). x.consumed) f.is) (ap (λ (x : Fed). x.count) f.is);
        lent = ap (beside after) same ∙ ap (λ (l : Lent). beside l state₀) f.lent;
      }

  pub fed_bytes : Feeds p st input before after fed
      → FedState p st input (beside before state₀) (beside after state) (numbers number fed.consumed fed.count)
  fed_bytes f = by (feed_refusal p st before) (feed_of p (machine_of st before) input) f.fed

-- feeding
module _ (profile input : List ℕ) (before : LentBytes) where
  refused_by : (r : ℕ) (row : Refusal) (d : Delivery) → (row ≡ Ok tt → ⊥) → r ≡ number_of row → FedBytes row d input before before (numbers r 0 0)
  refused_by r (Ok tt) d a m = absurd (a refl)
  refused_by r (Err row) d a m = record { is = numbers_are m refl refl; lent = refl }

  pub fed_no_state : stage_in before.state ≡ None
      → (begun : Started) → begun ≡ started_by (starting_refusal profile (length before.image) 0) (profile_in profile) zero_state
      → (r : ℕ) → r ≡ number_of begun.refusal → FeedsBytes profile input before before (numbers r 0 0)
  fed_no_state h begun b r m =
      let e : feeding_refusal profile before ≡ starting_refusal profile (length before.image) 0 = feed_no_state profile before h in
      refused_by r (feeding_refusal profile before) (delivery_of profile before input)
      (λ a. nowhere_refused profile (length before.image) (sym e ∙ a))
      (m ∙ ap (λ (x : Started). number_of x.refusal) b ∙ ap number_of (sym e))

  -- the device's feed with the profile and the state that the bytes are
  module _ (p : Profile) (q : p ≡ profile_in profile) (stage : Stage) (e : stage_in before.state ≡ Some stage)
      (st : State) (f : st ≡ state_with before.state stage) (after : LentBytes) (r : Numbers) where
    pub fed_both : FedState p st input before after r → FeedsBytes profile input before after r
    unfolding feeding_rows feed_rows
    fed_both a =
        subst (λ (s : Option Stage). FedBytes (refusal_of (first_fault (start_rows (profile_in profile) (length before.image) ++ state_rows (profile_in profile) (state_by before.state s) before.receive (length before.reply))))
        (feed_of (profile_in profile) (machine_of (state_or (state_by before.state s)) (without before)) input) input before after r) (sym e)
        (subst (λ (x : State). FedState (profile_in profile) x input before after r) f (subst (λ (x : Profile). FedState x st input before after r) q a))
