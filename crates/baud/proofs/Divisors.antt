-- No division by 0 is met where the clock runs and the rate is not 0, and BRR takes 1 from no 0. Assumes nothing.
use mathlib.Core.Path.{◌≡◌}
use Prim.Native.Nat.{ℕ, ◌+◌, ◌*◌, ◌/◌, ◌≤◌, ◌<◌, min}
use native.Mathlib.Nat.{le-div_iff_mul-le}
use native.Mathlib.Omega.{arith}
use borrow.Author.Tests.{le-ltb}
use Rattle.baud.specs.Rate.{clocking_of}

-- the two divisors of the definitions are positive: 32 x BRT in the clocking, SCI in M; and the clocking's quotient, where it is taken, is too
pub record Divides (sci brt : ℕ) : Type 0 where
  pub clocking : 1 ≤ 32 * brt
  pub modulation : 1 ≤ sci
  pub above_brr : 32 * brt ≤ sci → (clocking_of sci brt).brr + 1 ≡ min (sci / (32 * brt)) 256

pub divides : (sci brt : ℕ) → 1 ≤ sci → 1 ≤ brt → Divides sci brt
unfolding clocking_of
divides sci brt clock rate = record { clocking = omega arith; modulation = clock; above_brr = above }
  where
    above : 32 * brt ≤ sci → (clocking_of sci brt).brr + 1 ≡ min (sci / (32 * brt)) 256
    above h =
        let some : 0 < 32 * brt = omega arith in
        let quotient : 1 ≤ sci / (32 * brt) = (le-div_iff_mul-le some).1 (omega arith) in
        simp (le-ltb sci (32 * brt) h) (omega arith)
