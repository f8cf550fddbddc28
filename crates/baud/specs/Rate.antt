-- The line setting of a baud rate BRT under the clock SCI. All divisions round down; a division by 0 gives 0, which never decides: proofs/Divisors,
-- `divides`; device_steps, proofs/Defaults, `rate_divides` and `fresh_divides`.
use Rattle.std.specs.Prelude.{Bool, cond, List, [], ◌∷◌, ◌≡◌, ℕ, ◌+◌, ◌-◌, ◌*◌, ◌/◌, ◌≤◌, min, max, ltb, eqb}
use Rattle.verdict.specs.declared.Reason.{Reason}
use Rattle.verdict.specs.declared.Reason.TheVariants.{RateZero, RateAboveLimit, RateOff}
use Rattle.verdict.specs.Check.{Check, ◌gives◌}
use Rattle.baud.specs.declared.LineSetting.{LineSetting}
use Rattle.baud.specs.declared.Clocking.{Clocking}
use Rattle.baud.specs.declared.Modulation.{Modulation}

-- ABCS 1 where SCI is below 32 x BRT
unfoldable pub clocking_of : ℕ → ℕ → Clocking
clocking_of sci brt =
    cond (ltb sci (32 * brt))
    (record { abcs = 1; d = 16; brr = 0 })
    (record { abcs = 0; d = 32; brr = min (sci / (32 * brt) - 1) 255 })

-- 256 x D x (BRR + 1): the exact rate is SCI x M over it
abbrev pub divisor_of : Clocking → ℕ
divisor_of c = 256 * c.d * (c.brr + 1)

-- M before its limits
unfoldable pub rough_m : ℕ → ℕ → ℕ
rough_m sci brt = brt * divisor_of (clocking_of sci brt) / sci

-- above 255 MDDR is unused: held as 0, counted as 256; below 128 it is 128
unfoldable pub held_m : ℕ → ℕ
held_m m = cond (ltb 255 m) 0 (max m 128)

unfoldable pub counted_m : ℕ → ℕ
counted_m m = cond (ltb 255 m) 256 (max m 128)

unfoldable pub setting_of : ℕ → ℕ → LineSetting
setting_of sci brt =
    record { abcs = (clocking_of sci brt).abcs; brr = (clocking_of sci brt).brr; mddr = held_m (rough_m sci brt) }

abbrev pub apart_of : ℕ → ℕ → ℕ
apart_of a b = (a - b) + (b - a)

-- the exact rate and BRT, both times the divisor: more than 4 % of BRT apart
unfoldable pub rate_off : ℕ → ℕ → Bool
rate_off sci brt =
    ltb (4 * (brt * divisor_of (clocking_of sci brt)))
    (100 * apart_of (sci * counted_m (rough_m sci brt)) (brt * divisor_of (clocking_of sci brt)))

unfoldable pub rate_checks : ℕ → ℕ → ℕ → List (Check Reason)
rate_checks sci rmb brt = (eqb brt 0 gives RateZero) ∷ (ltb rmb brt gives RateAboveLimit) ∷ (rate_off sci brt gives RateOff) ∷ []

-- the clocking, and its bounds
pub record Clocked (sci brt : ℕ) (r : Clocking) : Type 0 where
  pub is : r ≡ clocking_of sci brt
  pub d : r.d ≤ 32
  pub brr : r.brr ≤ 255

-- M within its limits, and its bound
pub record Limited (m : ℕ) (r : Modulation) : Type 0 where
  pub counts : r.counts ≡ counted_m m
  pub mddr : r.mddr ≡ held_m m
  pub most : r.counts ≤ 256
