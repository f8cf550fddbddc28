-- Which plan there is, exactly, and what follows in one. Assumes nothing.
use mathlib.Core.Bool.{true, false}
use mathlib.Core.List.{List}
use mathlib.Core.Logic.{◌↔◌}
use Rattle.std.specs.Prelude.{Option, None, Some, Ok, Err}
use mathlib.Core.Path.{◌≡◌, refl, sym, ap, ◌∙◌}
use Prim.Native.Nat.{ℕ, ◌≤◌, ◌<◌}
use native.Mathlib.Omega.{arith}
use borrow.Author.Tests.{lt-ltb, le-ltb}
use Rattle.verdict.specs.Check.{Check, first_fault, NoneApplies, IsFirst}
use Rattle.verdict.proofs.FirstFault.{clear, grants, first, first_found}
use Rattle.host_plan.specs.declared.Plan.{Plan}
use Rattle.host_plan.specs.declared.Unplanned.{Unplanned}
use Rattle.host_plan.specs.Plan.{plan_checks, whole_plan, planned_by, plan_of, command_of, data_of, following_of}

module _ (s e unit count : ℕ) where
  abbrev checks : List (Check Unplanned)
  checks = plan_checks s e unit count

  -- there is a plan exactly where no fault applies, and it is the whole one
  pub plan_exactly : (plan : Plan) → (plan_of s e unit count ≡ Ok plan) ↔ (NoneApplies checks × (plan ≡ whole_plan s e unit count))
  plan_exactly plan = (
    λ h. let told = by (first_fault checks) h in (clear checks told.0, told.1),
    λ h. ap (λ (x : Option Unplanned). planned_by x (whole_plan s e unit count)) (grants checks h.0) ∙ ap Ok (sym h.1),
  )
    where
      by : (x : Option Unplanned) → planned_by x (whole_plan s e unit count) ≡ Ok plan → (x ≡ None) × (plan ≡ whole_plan s e unit count)
      by None h = (refl, cc)
      by (Some why) h = let z : ◌≡◌ {A = ℕ} 0 1 = cc in absurd (omega arith)

  -- refused exactly by the first fault
  pub unplanned_exactly : (why : Unplanned) → (plan_of s e unit count ≡ Err why) ↔ IsFirst checks why
  unplanned_exactly why = (
    λ h. first checks why (by (first_fault checks) h),
    λ i. ap (λ (x : Option Unplanned). planned_by x (whole_plan s e unit count)) (first_found checks why i),
  )
    where
      by : (x : Option Unplanned) → planned_by x (whole_plan s e unit count) ≡ Err why → x ≡ Some why
      by None h = let z : ◌≡◌ {A = ℕ} 0 1 = cc in absurd (omega arith)
      by (Some other) h = let k : other ≡ why = cc in ap Some k

module _ (plan : Plan) where
  -- a plan that was not begun starts with its command
  pub command_follows : plan.begun ≡ false → following_of plan ≡ Some (command_of plan)
  unfolding following_of
  command_follows b = rw b refl

  -- data follows while some is left
  pub data_follows : plan.begun ≡ true → plan.from < plan.end → following_of plan ≡ Some (data_of plan)
  unfolding following_of
  data_follows b l = rw (b, lt-ltb plan.from plan.end l) refl

  -- nothing follows behind the end
  pub nothing_follows : plan.begun ≡ true → plan.end ≤ plan.from → following_of plan ≡ None
  unfolding following_of
  nothing_follows b l = rw (b, le-ltb plan.from plan.end l) refl
