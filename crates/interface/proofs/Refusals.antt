-- Which row refuses a call from outside: those of starting, then the state's. Assumes nothing.
use mathlib.Core.Bool.{true, false, not}
use mathlib.Core.List.{List, [], ◌∷◌, ◌++◌}
use Rattle.std.specs.Prelude.{Option, None, Ok, Err}
use mathlib.Core.Path.{◌≡◌, sym, ap, ◌∙◌}
use Prim.Native.Nat.{ℕ}
use native.Mathlib.Omega.{arith}
use lib.ListN.{length}
use lib.Dec.{eqb}
use borrow.Author.Tests.{eqb-true, not-false, eq-eqb, ne_eqb}
use Rattle.verdict.specs.Check.{Check, ◌gives◌, first_fault, NoneApplies}
use Rattle.verdict.proofs.FirstFault.{found, clear, clear_right}
use Rattle.profile.specs.declared.Profile.{Profile}
use Rattle.profile_rules.specs.Rules.{head_checks, profile_checks}
use Rattle.profile_bytes.specs.Profile.{profile_length, profile_in}
use Rattle.state_bytes.specs.State.{state_length, state_by, stage_in, state_in}
use Rattle.state.specs.declared.State.{State}
use Rattle.state.specs.State.{zero_state}
use Rattle.device_calls.specs.declared.Row.{Row}
use Rattle.device_calls.specs.declared.Row.TheVariants.{Unacceptable, WrongState}
use Rattle.device_calls.specs.declared.Started.{Started}
use Rattle.device_calls.specs.Calls.{is_accepted, start_rows, refusal_of, start_refusal, started_by, Refusal}
use Rattle.device_calls.proofs.Rows.{is_accepted_lem, no_row, goes_on, stops}
use Rattle.state.specs.declared.Stage.{Stage}
use Rattle.interface.specs.Calls.{LentBytes, starting_rows, state_rows, feeding_rows, starting_refusal, feeding_refusal}

-- bytes of another length than a profile's are refused with 4 in each call: a replay, which the device's rows of starting
-- refuse; starting and resetting; feeding
module _ (profile : List ℕ) (h : length profile ≡ profile_length → ⊥) where
  pub no_profile_lem : (n : ℕ) → start_refusal (profile_in profile) n ≡ Err Unacceptable
  unfolding first_fault start_rows profile_checks head_checks profile_in
  no_profile_lem n = simp (ne_eqb (length profile) profile_length h)

  pub starting_no_profile : (n k : ℕ) → starting_refusal profile n k ≡ Err Unacceptable
  unfolding starting_rows
  starting_no_profile n k = stops (start_rows (profile_in profile) n) _ (ap is_accepted (no_profile_lem n)) ∙ no_profile_lem n

  pub feeding_no_profile : (l : LentBytes) → feeding_refusal profile l ≡ Err Unacceptable
  unfolding feeding_rows
  feeding_no_profile l =
      let n = length l.image in
      stops (start_rows (profile_in profile) n) _ (ap is_accepted (no_profile_lem n)) ∙ no_profile_lem n

-- starting and resetting, with k bytes for the state
module _ (profile : List ℕ) (n k : ℕ) where
  abbrev room_rows : List (Check Row)
  room_rows = (not (eqb k state_length) gives WrongState) ∷ []

  -- an accepted call has room for a state
  pub accepted_room : starting_refusal profile n k ≡ Ok tt → k ≡ state_length
  unfolding starting_rows NoneApplies
  accepted_room e =
      let c = clear room_rows (clear_right (start_rows (profile_in profile) n) room_rows (no_row _ e)) in
      eqb-true k state_length (not-false (eqb k state_length) c.0)

  -- what the device's start answers
  module _ (p : Profile) (q : p ≡ profile_in profile) (begun : Started) (e : begun ≡ started_by (start_refusal p n) p zero_state) where
    begins : begun ≡ started_by (start_refusal (profile_in profile) n) (profile_in profile) zero_state
    begins = e ∙ ap (λ (x : Profile). started_by (start_refusal x n) x zero_state) q

    first : begun.refusal ≡ start_refusal (profile_in profile) n
    first = ap (λ (x : Started). x.refusal) begins

    answered : start_refusal (profile_in profile) n ≡ starting_refusal profile n k → begun ≡ started_by (starting_refusal profile n k) (profile_in profile) zero_state
    answered same = begins ∙ ap (λ (row : Refusal). started_by row (profile_in profile) zero_state) same

    pub begin_refused : is_accepted begun.refusal ≡ false → begun ≡ started_by (starting_refusal profile n k) (profile_in profile) zero_state
    unfolding starting_rows
    begin_refused f = answered (sym (stops (start_rows (profile_in profile) n) room_rows (ap is_accepted (sym first) ∙ f)))

    module _ (t : is_accepted begun.refusal ≡ true) where
      goes : starting_refusal profile n k ≡ refusal_of (first_fault room_rows)
      unfolding starting_rows
      goes = goes_on (start_rows (profile_in profile) n) room_rows (ap is_accepted (sym first) ∙ t)

      pub begin_no_room : (k ≡ state_length → ⊥) → Err WrongState ≡ starting_refusal profile n k
      unfolding first_fault
      begin_no_room j = let f = ne_eqb k state_length j in sym (goes ∙ simp f)

      pub begin_accepted : k ≡ state_length → begun ≡ started_by (starting_refusal profile n k) (profile_in profile) zero_state
      unfolding first_fault
      begin_accepted j =
          let r = eq-eqb k state_length j in
          let same : starting_refusal profile n k ≡ (Ok tt) = goes ∙ simp r in
          answered (sym first ∙ is_accepted_lem begun.refusal t ∙ sym same)

-- feeding bytes that are no state is refused as a start with no bytes for it, which is never accepted
pub feed_no_state : (profile : List ℕ) (l : LentBytes) → stage_in l.state ≡ None → feeding_refusal profile l ≡ starting_refusal profile (length l.image) 0
unfolding feeding_rows starting_rows
feed_no_state profile l e =
    ap (λ (s : Option Stage). refusal_of (first_fault (start_rows (profile_in profile) (length l.image) ++ state_rows (profile_in profile) (state_by l.state s) l.receive (length l.reply)))) e

pub nowhere_refused : (profile : List ℕ) (n : ℕ) → starting_refusal profile n 0 ≡ Ok tt → ⊥
nowhere_refused profile n e = omega (arith, accepted_room profile n 0 e)

-- an accepted feed has a state, so the zero state that stands for none decides nothing
pub state_there : (profile : List ℕ) (l : LentBytes) → feeding_refusal profile l ≡ Ok tt → state_in l.state ≡ None → ⊥
unfolding first_fault feeding_rows
state_there profile l a e =
    let first : List (Check Row) = start_rows (profile_in profile) (length l.image) in
    let behind : Option State → List (Check Row) = λ st. state_rows (profile_in profile) st l.receive (length l.reply) in
    let c : first_fault (first ++ behind (state_in l.state)) ≡ None = no_row _ a in
    found (clear_right first (behind None) (ap (λ (st : Option State). first_fault (first ++ behind st)) (sym e) ∙ c))
