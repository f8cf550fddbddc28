-- The rows of the refused calls: the first that applies gives the refusal, and a call is accepted exactly where none applies.
-- Assumes nothing.
use mathlib.Core.Bool.{Bool, true, false, not}
use mathlib.Core.List.{List, [], ◌∷◌, ◌++◌, map}
use mathlib.Core.Logic.{◌↔◌}
use Rattle.std.specs.Prelude.{Option, None, Some, Ok, Err}
use mathlib.Core.Path.{◌≡◌, refl, sym, ap, ◌∙◌}
use Prim.Native.Nat.{ℕ, ◌<◌}
use native.Mathlib.Omega.{arith}
use lib.ListN.{length, take}
use borrow.Author.Tests.{ltb-false, eqb-true, not-false, le-ltb, lt-ltb, eq-eqb, ne_eqb}
use Rattle.verdict.specs.Check.{Check, ◌gives◌, first_fault, NoneApplies, passes}
use Rattle.verdict.proofs.FirstFault.{found, clear, granted_clear, fault_right}
use Rattle.profile.specs.declared.Profile.{Profile}
use Rattle.profile.specs.Areas.{areas_of, total_of}
use Rattle.profile_rules.specs.declared.Rule.{Rule}
use Rattle.profile_rules.specs.Rules.{profile_checks, Accepted as AcceptedProfile}
use Rattle.packet.specs.Frame.{longest_packet, Roomy}
use Rattle.state.specs.declared.State.{State}
use Rattle.state.specs.State.{fresh_state}
use Rattle.state.specs.Fit.{Fit}
use Rattle.state.specs.Fits.{fits_of}
use Rattle.state.proofs.FitParts.{fit, fits}
use Rattle.device_calls.specs.declared.Row.{Row}
use Rattle.device_calls.specs.declared.Row.TheVariants.{Unacceptable, WrongImage, WrongState, ShortReceive, ShortReply}
use Rattle.device_calls.specs.declared.Started.{Started}
use Rattle.device_calls.specs.Calls.{Lent, number_of, is_accepted, start_rows, buffer_rows, feed_rows, refusal_of, start_refusal, feed_refusal, started_at, started_by, Starts, Refusal}
use Rattle.device_calls.specs.Ready.{Ready}

impossible : {A : Type 0} → ◌≡◌ {A = ℕ} 0 1 → A
impossible z = absurd (omega arith)

-- the test tells the refusal
pub is_accepted_lem : (refusal : Refusal) → is_accepted refusal ≡ true → refusal ≡ Ok tt
is_accepted_lem (Ok tt) e = refl
is_accepted_lem (Err row) e = impossible (cc)

pub accepts : (refusal : Refusal) → refusal ≡ Ok tt → is_accepted refusal ≡ true
accepts refusal e = rw e refl

-- the state that starting and resetting give
module _ (p : Profile) (before : State) where
  pub started_fresh : (refusal : Refusal) → is_accepted refusal ≡ true → started_at refusal p before ≡ fresh_state p
  started_fresh refusal e = rw (is_accepted_lem refusal e) refl

  pub started_same : (refusal : Refusal) → is_accepted refusal ≡ false → started_at refusal p before ≡ before
  started_same (Ok tt) e = impossible (cc)
  started_same (Err row) e = refl

-- an answer with a refusal and the state that goes with it
pub begun : (at : Refusal → State) (refusal r : Refusal) (s : State) → r ≡ refusal → s ≡ at r
    → ◌≡◌ {A = Started} (record { refusal = r; state = s }) (record { refusal = refusal; state = at refusal })
begun at refusal r s e f =
    ap (λ (x : State). record { refusal = r; state = x }) f
    ∙ ap (λ (x : Refusal). record { refusal = x; state = at x }) e

pub starts : {p : Profile} {n : ℕ} {before : State} {r : Started} → r ≡ started_by (start_refusal p n) p before → Starts p n before r
starts e = record { number = ap (λ (x : Started). number_of x.refusal) e; is = e }

-- an accepted call, so no row is found
pub no_row : (f : Option Row) → refusal_of f ≡ Ok tt → f ≡ None
no_row = granted_clear

-- two lists of rows, one after the other
pub goes_on : (xs ys : List (Check Row)) → is_accepted (refusal_of (first_fault xs)) ≡ true
    → refusal_of (first_fault (xs ++ ys)) ≡ refusal_of (first_fault ys)
goes_on xs ys e = ap refusal_of (fault_right xs ys (no_row (first_fault xs) (is_accepted_lem _ e)))

pub stops : (xs ys : List (Check Row)) → is_accepted (refusal_of (first_fault xs)) ≡ false
    → refusal_of (first_fault (xs ++ ys)) ≡ refusal_of (first_fault xs)
unfolding first_fault
stops [] ys e = impossible (cc)
stops ((true gives row) ∷ xs) ys e = refl
stops ((false gives row) ∷ xs) ys e = stops xs ys e

-- a profile that breaks a rule, and one that breaks none
unbroken : (f : Option Rule) → not (passes f) ≡ false → f ≡ None
unbroken None e = refl
unbroken (Some rule) e = impossible (cc)

broken : (f : Option Rule) → (f ≡ None → ⊥) → not (passes f) ≡ true
broken None h = absurd (h refl)
broken (Some rule) h = refl

-- a profile that is judged to break a rule is not accepted
pub breaks_not : (p : Profile) (rule : Rule) → first_fault (profile_checks p) ≡ Some rule → AcceptedProfile p → ⊥
unfolding AcceptedProfile
breaks_not p rule e a = found (sym e ∙ a)

-- the rows of starting and resetting, for an image of n bytes
module _ (p : Profile) (n : ℕ) where
  pub start_first : (AcceptedProfile p → ⊥) → start_refusal p n ≡ Err Unacceptable
  unfolding first_fault start_rows AcceptedProfile
  start_first h = simp (broken (first_fault (profile_checks p)) h)

  pub start_second : AcceptedProfile p → (n ≡ total_of (areas_of p) → ⊥) → start_refusal p n ≡ Err WrongImage
  unfolding first_fault start_rows AcceptedProfile
  start_second a h = simp (a, ne_eqb n (total_of (areas_of p)) h)

  -- accepted exactly where the profile is and the image's length is the total
  pub start_accepts : AcceptedProfile p → n ≡ total_of (areas_of p) → start_refusal p n ≡ Ok tt
  unfolding first_fault start_rows AcceptedProfile
  start_accepts a e = simp (a, eq-eqb n (total_of (areas_of p)) e)

  pub start_accepted : start_refusal p n ≡ Ok tt → AcceptedProfile p × (n ≡ total_of (areas_of p))
  unfolding start_rows AcceptedProfile NoneApplies
  start_accepted e =
      let c = clear (start_rows p n) (no_row _ e) in
      (unbroken (first_fault (profile_checks p)) c.0, eqb-true n (total_of (areas_of p)) (not-false _ c.1.0))

-- a state that does not fit fails the test
misfit : (p : Profile) (st : State) (receive : List ℕ) → (Fit p st receive → ⊥) → (b : Bool) → fits_of p st receive ≡ b → b ≡ false
misfit p st receive h true e = absurd (h (fit p st receive e))
misfit p st receive h false e = refl

-- the rows of feeding
module _ (p : Profile) (st : State) (l : Lent) where
  -- their first are those of starting
  pub feed_rows_lem : feed_refusal p st l ≡ refusal_of (first_fault (start_rows p (length l.image) ++ buffer_rows p st l.receive (length l.reply)))
  unfolding feed_rows
  feed_rows_lem = refl

  -- in the order 4, 1, 5, 2, 3
  pub first_row : (AcceptedProfile p → ⊥) → feed_refusal p st l ≡ Err Unacceptable
  unfolding first_fault feed_rows start_rows AcceptedProfile
  first_row h = simp (broken (first_fault (profile_checks p)) h)

  pub second_row : AcceptedProfile p → (length l.image ≡ total_of (areas_of p) → ⊥) → feed_refusal p st l ≡ Err WrongImage
  unfolding first_fault feed_rows start_rows AcceptedProfile
  second_row a h = simp (a, ne_eqb _ _ h)

  -- past the rows of starting
  module _ (a : AcceptedProfile p) (e : length l.image ≡ total_of (areas_of p)) where
    pub third_row : (Fit p st l.receive → ⊥) → feed_refusal p st l ≡ Err WrongState
    unfolding first_fault feed_rows start_rows buffer_rows AcceptedProfile
    third_row h = simp (a, eq-eqb _ _ e, misfit p st l.receive h (fits_of p st l.receive) refl)

    pub fourth_row : Fit p st l.receive → length l.receive < longest_packet → feed_refusal p st l ≡ Err ShortReceive
    unfolding first_fault feed_rows start_rows buffer_rows AcceptedProfile
    fourth_row f h = simp (a, eq-eqb _ _ e, fits p st l.receive f, lt-ltb _ _ h)

    pub fifth_row : Fit p st l.receive → Roomy l.receive → length l.reply < longest_packet → feed_refusal p st l ≡ Err ShortReply
    unfolding first_fault feed_rows start_rows buffer_rows AcceptedProfile
    fifth_row f g h = simp (a, eq-eqb _ _ e, fits p st l.receive f, le-ltb _ _ g, lt-ltb _ _ h)

  -- accepted exactly where a step has what it asks
  pub rows_ready : feed_refusal p st l ≡ Ok tt → Ready p st l
  unfolding feed_rows start_rows buffer_rows NoneApplies AcceptedProfile
  rows_ready e =
      let c = clear (feed_rows p st l) (no_row _ e) in
      record {
        profile = unbroken (first_fault (profile_checks p)) c.0;
        image = eqb-true _ _ (not-false _ c.1.0);
        receive = ltb-false _ _ c.1.1.1.0;
        reply = ltb-false _ _ c.1.1.1.1.0;
        fit = fit p st l.receive (not-false _ c.1.1.0);
      }

  pub ready_rows : Ready p st l → feed_refusal p st l ≡ Ok tt
  unfolding first_fault feed_rows start_rows buffer_rows AcceptedProfile
  ready_rows r = simp (r.profile, eq-eqb _ _ r.image, fits p st l.receive r.fit, le-ltb _ _ r.receive, le-ltb _ _ r.reply)

  pub accepted_exactly : (feed_refusal p st l ≡ Ok tt) ↔ Ready p st l
  accepted_exactly = (rows_ready, ready_rows)

-- whether a feed is refused, and by which row, goes by the lengths of its buffers and the held bytes: by no byte of the image, and none of a reply
pub refused_alike : (p : Profile) (st : State) (l l' : Lent) → length l.image ≡ length l'.image
    → take st.held l.receive ≡ take st.held l'.receive → length l.receive ≡ length l'.receive → length l.reply ≡ length l'.reply
    → feed_refusal p st l ≡ feed_refusal p st l'
unfolding feed_rows buffer_rows fits_of
refused_alike p st l l' image held receive reply = rw (image, held, receive, reply) refl

-- the paper's numbers in the order of the rows
pub rows_numbers : map (λ (row : Row). number_of (Err row)) (Unacceptable ∷ WrongImage ∷ WrongState ∷ ShortReceive ∷ ShortReply ∷ []) ≡ 4 ∷ 1 ∷ 5 ∷ 2 ∷ 3 ∷ []
rows_numbers = refl
