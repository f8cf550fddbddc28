-- The number tells the two answers apart: it is the number of bytes exactly where all are FFh. Assumes nothing.
use mathlib.Core.List.{List}
use mathlib.Core.Path.{◌≡◌, ap}
use Prim.Native.Nat.{ℕ, ◌*◌, ◌≤◌, ◌<◌, max}
use native.Mathlib.Nat.{le-mul_of_pos_right}
use native.Mathlib.Omega.{arith}
use lib.ListN.{length}
use Rattle.flash_blank.specs.Blank.{searched}
use Rattle.flash_blank.proofs.Found.{AllBlank, blank_clean, dirty_first}
use Rattle.std.specs.Prelude.{Some}
use Rattle.interface_blank.specs.Number.{number_in}

module _ (unit : ℕ) (target : List ℕ) where
  pub blank_told : AllBlank target → number_in (length target) (searched unit target) ≡ length target
  blank_told all = ap (number_in (length target)) (blank_clean unit target all)

  pub dirty_told : (n : ℕ) → searched unit target ≡ Some n → (number_in (length target) (searched unit target) ≡ n) × (n < length target)
  dirty_told n e =
      let f = dirty_first unit target n e in
      let p : 1 ≤ max unit 1 = omega arith in
      let m : n ≤ n * max unit 1 = le-mul_of_pos_right n p in
      (ap (number_in (length target)) e, omega arith)
