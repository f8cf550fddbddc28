-- The rows of a call: the first that applies gives the refusal; the promises of the calls say which rows. Assumes nothing.
use mathlib.Core.Bool.{cond}
use mathlib.Core.List.{List}
use Rattle.std.specs.Prelude.{Option, None, Some, Ok, Err}
use mathlib.Core.Path.{◌≡◌, refl, sym, ap, subst, ◌∙◌}
use Prim.Native.Nat.{ℕ}
use lib.Dec.{eqb}
use Rattle.verdict.specs.Check.{Check, first_fault}
use Rattle.verdict.proofs.FirstFault.{clear, grants, first, first_found}
use Rattle.profile.specs.declared.Profile.{Profile}
use Rattle.packet.proofs.Laws.{impossible}
use Rattle.state.specs.declared.State.{State}
use Rattle.state.specs.State.{fresh_state}
use Rattle.device_calls.specs.declared.Row.{Row}
use Rattle.device_calls.specs.declared.Row.TheVariants.{Unacceptable, WrongImage, WrongState, ShortReceive, ShortReply}
use Rattle.device_calls.specs.declared.Started.{Started}
use Rattle.device_calls.specs.Calls.{Lent, number_of, refusal_of, start_refusal, feed_refusal, started_at, Starts, Refusal}
use Rattle.device_calls.proofs.Rows.{no_row}
use Rattle.device_steps.specs.Feed.{Delivery, feed_of}
use Rattle.device_steps.specs.Step.{machine_of}
use Rattle.device.specs.declared.Fed.{Fed}
use Rattle.device.specs.Post.{Ran, Unfed, FedBy, Feeds}
use Rattle.record_driver.specs.declared.Driven.{Driven}
use Rattle.record_driver.specs.Post.{Drove, Undriven, DrivenBy, Drives}
use Rattle.demands.specs.Demand1.{ByRows}

by_row : (f : Option Row) (row : Row) → refusal_of f ≡ Err row → f ≡ Some row
by_row None row e = impossible (cc)
by_row (Some other) row e = cc

pub by_rows : (rows : List (Check Row)) {refusal : Refusal} → refusal ≡ refusal_of (first_fault rows) → ByRows rows refusal
by_rows rows e =
    record {
      accepted = (λ h. clear rows (no_row (first_fault rows) (sym e ∙ h)), λ n. e ∙ ap refusal_of (grants rows n));
      refused = λ row. (λ h. first rows row (by_row (first_fault rows) row (sym e ∙ h)), λ f. e ∙ ap refusal_of (first_found rows row f));
    }

-- starting and resetting
module _ {p : Profile} {n : ℕ} {before : State} {r : Started} (s : Starts p n before r) where
  pub start_refusal_lem : r.refusal ≡ start_refusal p n
  start_refusal_lem = ap (λ (x : Started). x.refusal) s.is

  pub start_keeps : (row : Row) → r.refusal ≡ Err row → r.state ≡ before
  start_keeps row e =
      ap (λ (x : Started). x.state) s.is ∙ ap (λ (x : Refusal). started_at x p before) (sym start_refusal_lem ∙ e)

  pub start_fresh : r.refusal ≡ Ok tt → r.state ≡ fresh_state p
  start_fresh e =
      ap (λ (x : Started). x.state) s.is ∙ ap (λ (x : Refusal). started_at x p before) (sym start_refusal_lem ∙ e)

-- feeding
told : (refusal : Refusal) (d : Delivery) (input : List ℕ) (st : State) (before after : Lent) (r : Fed) → FedBy refusal d input st before after r
    → r.refusal ≡ refusal
told (Ok tt) d input st before after r f = ap (λ (x : Fed). x.refusal) f.is
told (Err row) d input st before after r f = ap (λ (x : Fed). x.refusal) f.is

module _ {p : Profile} {st : State} {input : List ℕ} {before after : Lent} {r : Fed} (f : Feeds p st input before after r) where
  abbrev d : Delivery
  d = feed_of p (machine_of st before) input

  pub feed_refusal_lem : r.refusal ≡ feed_refusal p st before
  feed_refusal_lem = told (feed_refusal p st before) d input st before after r f.fed

  pub feed_ran : r.refusal ≡ Ok tt → Ran (feed_of p (machine_of st before) input) input before after r
  feed_ran e = subst (λ (x : Refusal). FedBy x d input st before after r) (sym feed_refusal_lem ∙ e) f.fed

  pub feed_unfed : (row : Row) → r.refusal ≡ Err row → Unfed row st before after r
  feed_unfed row e = subst (λ (x : Refusal). FedBy x d input st before after r) (sym feed_refusal_lem ∙ e) f.fed

-- driving
drive_told : (refusal : Refusal) (p : Profile) (script : List ℕ) (before after : Lent) (r : Driven) → DrivenBy refusal p script before after r
    → r.refusal ≡ refusal
drive_told (Ok tt) p script before after r f = f.refusal
drive_told (Err row) p script before after r f = ap (λ (x : Driven). x.refusal) f.is

module _ (p : Profile) (script : List ℕ) (before after : Lent) (r : Driven) (f : Drives p script before after r) where
  pub drive_refusal : r.refusal ≡ feed_refusal p (fresh_state p) before
  drive_refusal = drive_told (feed_refusal p (fresh_state p) before) p script before after r f

  pub drive_ran : r.refusal ≡ Ok tt → Drove p script before after r
  drive_ran e = subst (λ (x : Refusal). DrivenBy x p script before after r) (sym drive_refusal ∙ e) f

  pub drive_undriven : (row : Row) → r.refusal ≡ Err row → Undriven row p before after r
  drive_undriven row e = subst (λ (x : Refusal). DrivenBy x p script before after r) (sym drive_refusal ∙ e) f

-- a number tells its refusal
numbered : ℕ → Refusal
numbered n =
    cond (eqb n 4) (Err Unacceptable)
    (cond (eqb n 1) (Err WrongImage)
    (cond (eqb n 5) (Err WrongState)
    (cond (eqb n 2) (Err ShortReceive)
    (cond (eqb n 3) (Err ShortReply)
    (Ok tt)))))

number_tells : (refusal : Refusal) → refusal ≡ numbered (number_of refusal)
unfolding numbered
number_tells (Ok tt) = refl
number_tells (Err Unacceptable) = refl
number_tells (Err WrongImage) = refl
number_tells (Err WrongState) = refl
number_tells (Err ShortReceive) = refl
number_tells (Err ShortReply) = refl

pub refusal_once : (a b : Refusal) → number_of a ≡ number_of b → a ≡ b
refusal_once a b e = number_tells a ∙ ap numbered e ∙ sym (number_tells b)
