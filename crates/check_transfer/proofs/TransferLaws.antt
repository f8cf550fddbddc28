-- What the checks of a packet in a write and in a read need: each answer follows from the tests on its way. Assumes nothing.
use mathlib.Core.List.{List}
use Rattle.std.specs.Prelude.{None, Option, Some, Ok, Err}
use mathlib.Core.Path.{◌≡◌, sym, ap, ◌∙◌}
use Prim.Native.Nat.{ℕ, ◌+◌, ◌%◌, ◌≤◌}
use native.Mathlib.Nat.{mod-zero}
use native.Mathlib.Omega.{arith}
use lib.Dec.{eqb}
use borrow.Author.Tests.{eq-eqb, ne_eqb, le-ltb, eqb-true, eqb-false, ltb-false, not-false}
use Rattle.verdict.specs.declared.Reason.{Reason}
use Rattle.verdict.specs.declared.Reason.TheVariants.{BrokenUnit, DirtyFlash}
use Rattle.verdict.specs.Check.{Check, first_fault, NoneApplies, verdict_of, Verdict}
use Rattle.verdict.proofs.FirstFault.{clear, granted_then}
use Rattle.profile.specs.declared.Area.{Area}
use Rattle.flash.specs.Effects.{fetched}
use Rattle.flash_blank.specs.Blank.{searched}
use Rattle.state.specs.declared.Range.{Range}
use Rattle.packet_fields.specs.Fields.{code_at, info_count}
use Rattle.check_transfer.specs.Transfer.{amount_checks, unit_before, units_checks, target_checks}

-- the amount, with RES and the count as they were read
pub right_amount : (left : ℕ) (q : List ℕ) (code count : ℕ) → code ≡ code_at q → count ≡ info_count q → code ≡ 0x13 → (count ≡ 0 → ⊥) → count ≤ left
    → (Ok tt) ≡ verdict_of (first_fault (amount_checks left q))
unfolding first_fault amount_checks
right_amount left q code count is_code is-count right any m = simp (sym is_code, eq-eqb _ _ right, sym is-count, ne_eqb _ _ any, le-ltb _ _ m)

-- an amount that was granted
module _ (left : ℕ) (q : List ℕ) (granted : first_fault (amount_checks left q) ≡ None) where
  amount_clear : NoneApplies (amount_checks left q)
  amount_clear = clear (amount_checks left q) granted

  pub amount_code : code_at q ≡ 0x13
  unfolding amount_checks NoneApplies
  amount_code = eqb-true (code_at q) 0x13 (not-false (eqb (code_at q) 0x13) amount_clear.0)

  pub amount_any : info_count q ≡ 0 → ⊥
  unfolding amount_checks NoneApplies
  amount_any = eqb-false (info_count q) 0 amount_clear.1.0

  pub amount_most : info_count q ≤ left
  unfolding amount_checks NoneApplies
  amount_most = ltb-false left (info_count q) amount_clear.1.1.0

-- the units of a target, with the unit as it was looked up
module _ (areas : List Area) (image : List ℕ) (next count unit : ℕ) (is-unit : unit ≡ unit_before areas (next + count)) where
  abbrev verdict : Verdict
  verdict = verdict_of (first_fault (units_checks areas image next count (unit_before areas (next + count))))

  pub broken_unit : ((next + count) % unit ≡ 0 → ⊥) → Err BrokenUnit ≡ verdict
  unfolding first_fault units_checks
  broken_unit b = simp (sym is-unit, ne_eqb _ _ b)

  -- a unit of 0 divides only nothing
  pub no_unit : 1 ≤ count → unit ≡ 0 → Err BrokenUnit ≡ verdict
  no_unit some z = broken_unit (λ e. let k : next + count ≡ 0 = sym (ap (λ (u : ℕ). (next + count) % u) z ∙ mod-zero (next + count)) ∙ e in omega arith)

  module _ (whole : (next + count) % unit ≡ 0) (target : List ℕ) (is-target : target ≡ fetched areas next count image) (found : Option ℕ)
      (is_found : found ≡ searched unit target) where
    is_search : searched unit (fetched areas next count image) ≡ found
    is_search = sym (is_found ∙ ap (searched unit) is-target)

    pub blank_target : found ≡ None → (Ok tt) ≡ verdict
    unfolding first_fault units_checks
    blank_target e = simp (sym is-unit, eq-eqb _ _ whole, is_search ∙ e)

    pub dirty_target : (number : ℕ) → found ≡ Some number → Err DirtyFlash ≡ verdict
    unfolding first_fault units_checks
    dirty_target number e = simp (sym is-unit, eq-eqb _ _ whole, is_search ∙ e)

-- the amount, then the target
module _ (areas : List Area) (image : List ℕ) (r : Range) (q : List ℕ) (amount : Verdict) (is-amount : amount ≡ verdict_of (first_fault (amount_checks r.left q))) where
  -- the checks of the target
  abbrev units : List (Check Reason)
  units = units_checks areas image r.next (info_count q) (unit_before areas (r.next + info_count q))

  pub target_granted : amount ≡ Ok tt → (count : ℕ) → count ≡ info_count q
      → (v : Verdict) → v ≡ verdict_of (first_fault (units_checks areas image r.next count (unit_before areas (r.next + count))))
      → v ≡ verdict_of (first_fault (target_checks areas image r q))
  unfolding target_checks
  target_granted e count is-count v is-v =
      is-v
      ∙ ap (λ (n : ℕ). verdict_of (first_fault (units_checks areas image r.next n (unit_before areas (r.next + n))))) is-count
      ∙ sym (granted_then (amount_checks r.left q) units (sym is-amount ∙ e))
