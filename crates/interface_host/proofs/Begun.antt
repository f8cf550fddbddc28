-- What beginning a judge tells by its number. Assumes nothing.
use mathlib.Core.Bool.{Bool, true, false}
use mathlib.Core.List.{List}
use mathlib.Core.Logic.{◌↔◌}
use mathlib.Core.Path.{◌≡◌, refl, sym, ap, ◌∙◌}
use Prim.Native.Nat.{ℕ, ◌<◌}
use native.Mathlib.Omega.{arith}
use lib.ListN.{length}
use lib.Dec.{eqb}
use borrow.Author.Tests.{eqb-true, eqb-false}
use Rattle.host_request.specs.declared.Request.{Request}
use Rattle.host_bytes.specs.Requests.{request_in}
use Rattle.host_bytes.specs.Judges.{judge_length}
use Rattle.interface_host.specs.Post.{no_request_number, begins_number, begins_over, BeginsBytes}
use Rattle.std.specs.Prelude.{Option, Some, None}
use Rattle.interface_host.specs.Told.{BeginsAs}

-- what was begun, by its number
module _ (request first second : ℕ) (before after : List ℕ) (r : ℕ) (told : BeginsBytes request first second before after r) where
  -- either a fresh judge was written; or it was not, for one of two reasons, and the bytes stay
  begun_by : {P : Type 0} → (request_in request first second ≡ None → r ≡ 5 → after ≡ before → P)
      → ((q : Request) → request_in request first second ≡ Some q → (length before ≡ judge_length → ⊥) → r ≡ 6 → after ≡ before → P)
      → (BeginsAs request first second before after → r ≡ 1 → P) → P
  begun_by {P} unasked unfit begun = by (request_in request first second) refl
    where
      within : (q : Request) → request_in request first second ≡ Some q → (t : Bool) → eqb (length before) judge_length ≡ t → P
      within q e true t =
          begun (record {
            asked = q;
            is = e;
            whole = eqb-true (length before) judge_length t;
            leaves = rw t at (told.leaves ∙ ap (λ (y : Option Request). begins_over y before) e);
          }) (rw t at (told.number ∙ ap (λ (y : Option Request). begins_number y before) e))
      within q e false t =
          unfit q e (eqb-false (length before) judge_length t) (rw t at (told.number ∙ ap (λ (y : Option Request). begins_number y before) e))
          (rw t at (told.leaves ∙ ap (λ (y : Option Request). begins_over y before) e))

      by : (x : Option Request) → request_in request first second ≡ x → P
      by None e =
          unasked e (told.number ∙ ap (λ (y : Option Request). begins_number y before) e) (told.leaves ∙ ap (λ (y : Option Request). begins_over y before) e)
      by (Some q) e = within q e (eqb (length before) judge_length) refl

  -- 1 exactly where a judge was begun
  pub begun_told : (r ≡ 1) ↔ BeginsAs request first second before after
  begun_told = (
    λ e. begun_by (λ _ n _. absurd (omega arith)) (λ _ _ _ n _. absurd (omega arith)) (λ h _. h),
    λ h. begun_by (λ e _ _. clash (sym h.is ∙ e)) (λ _ _ n _ _. absurd (n h.whole)) (λ _ n. n),
  )
    where
      clash : {P : Type 0} {q : Request} → Some q ≡ None → P
      clash e = let z : ◌≡◌ {A = ℕ} 0 1 = cc in absurd (omega arith)

  -- 5 exactly where the numbers are no request
  pub begun_unasked_told : (r ≡ no_request_number) ↔ (request_in request first second ≡ None)
  begun_unasked_told = (
    λ e. begun_by (λ k _ _. k) (λ _ _ _ n _. absurd (omega arith)) (λ _ n. absurd (omega arith)),
    λ e. told.number ∙ ap (λ (y : Option Request). begins_number y before) e,
  )

  -- where none was begun the bytes stay
  pub unbegun_stays : (r ≡ 1 → ⊥) → after ≡ before
  unbegun_stays none-begun = begun_by (λ _ _ stays. stays) (λ _ _ _ _ stays. stays) (λ _ n. absurd (none-begun n))

  -- never 0
  pub beginning_answered : 0 < r
  beginning_answered = begun_by (λ _ n _. omega arith) (λ _ _ _ n _. omega arith) (λ _ n. omega arith)
