-- Laws on products that must fit, and on the steps of the definitions. Assumes nothing.
use mathlib.Core.Path.{◌≡◌}
use Prim.Native.Nat.{ℕ, ◌+◌, ◌*◌, ◌/◌, ◌^◌, ◌≤◌, ◌<◌}
use native.Mathlib.Nat.{mul-le-mul}
use native.Mathlib.Omega.{arith}
use lib.Dec.{ltb}
use Rattle.baud.specs.declared.Clocking.{Clocking}
use Rattle.baud.specs.declared.LineSetting.{LineSetting}
use Rattle.baud.specs.Rate.{clocking_of, divisor_of, rough_m, counted_m, held_m, setting_of, apart_of, rate_off}

-- a product is bounded by the product of its factors' bounds
pub product : (most more : ℕ) {a b : ℕ} → a ≤ most → b ≤ more → a * b ≤ most * more
product most more p q = mul-le-mul p q

-- D at most 32, BRR at most 255
pub divisor_below : {d brr : ℕ} → d ≤ 32 → brr ≤ 255 → 256 * d * (brr + 1) ≤ 2097152
divisor_below p q = product 8192 256 (omega arith) (omega arith)

-- BRT, or SCI, times the divisor, or M
pub scaled : (more : ℕ) {rate factor : ℕ} → rate < 2 ^ 32 → factor ≤ more → rate * factor ≤ 4294967295 * more
scaled more {rate} small below = let most : rate ≤ 4294967295 = omega arith in product 4294967295 more most below

-- the exact rate and BRT, both times the divisor
pub both_below : {sci brt over counts : ℕ} → sci < 2 ^ 32 → brt < 2 ^ 32 → over ≤ 2097152 → counts ≤ 256 → (sci * counts < 2 ^ 40) × (brt * over < 2 ^ 53)
both_below s b o c = (omega (arith, scaled 256 s c), omega (arith, scaled 2097152 b o))

-- the test for 4 %, from the values that it is worked out from
pub off_is : (sci brt : ℕ) (k : Clocking) (over m counts between : ℕ)
    → k ≡ clocking_of sci brt → over ≡ divisor_of k → m ≡ brt * over / sci → counts ≡ counted_m m → between ≡ apart_of (sci * counts) (brt * over)
    → ltb (4 * (brt * over)) (100 * between) ≡ rate_off sci brt
unfolding rate_off rough_m
off_is sci brt k over m counts between e₁ e₂ e₃ e₄ e₅ = rw (e₅, e₄, e₃, e₂, e₁)

-- the setting, from the values that it is worked out from
pub setting_is : (sci brt : ℕ) (k : Clocking) (over m mddr : ℕ)
    → k ≡ clocking_of sci brt → over ≡ divisor_of k → m ≡ brt * over / sci → mddr ≡ held_m m
    → ◌≡◌ {A = LineSetting} (record { abcs = k.abcs; brr = k.brr; mddr = mddr }) (setting_of sci brt)
unfolding setting_of rough_m
setting_is sci brt k over m mddr e₁ e₂ e₃ e₄ = rw (e₄, e₃, e₂, e₁)
