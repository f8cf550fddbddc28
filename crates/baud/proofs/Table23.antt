-- For SCI 60,000,000: rows of table 23, and with RMB 4,000,000 rates on both sides of 4 %. Assumes nothing.
use mathlib.Core.List.{List, [], ◌∷◌, map}
use mathlib.Core.Path.{◌≡◌, refl}
use Prim.Native.Nat.{ℕ}
use Rattle.verdict.specs.declared.Reason.TheVariants.{RateOff}
use Rattle.verdict.specs.Check.{first_fault, verdict_of, Verdict}
use Rattle.baud.specs.declared.LineSetting.{LineSetting}
use Rattle.std.specs.Prelude.{Ok, Err}
use Rattle.baud.specs.Rate.{clocking_of, rough_m, held_m, counted_m, setting_of, rate_off, rate_checks}

pub record Row : Type 0 where
  pub sci : ℕ
  pub brt : ℕ
  pub setting : LineSetting

-- SCI, BRT, ABCS, BRR, MDDR
abbrev pub row : ℕ → ℕ → ℕ → ℕ → ℕ → Row
row sci brt abcs brr mddr = record { sci = sci; brt = brt; setting = record { abcs = abcs; brr = brr; mddr = mddr } }

-- MDDR 0: unused
abbrev pub rows : List Row
rows =
    row 60000000 9600 0 0xC2 0xFF
    ∷ row 60000000 1000000 0 0x00 0x88
    ∷ row 60000000 2000000 1 0x00 0x88
    ∷ row 60000000 3750000 1 0x00 0 ∷ []

pub settings : map (λ (r : Row). setting_of r.sci r.brt) rows ≡ map (λ (r : Row). r.setting) rows
unfolding setting_of clocking_of rough_m held_m
settings = refl

-- a rate, and the answer to it
pub record Asked : Type 0 where
  pub brt : ℕ
  pub answer : Verdict

-- 3,906,250 is off by exactly 4 %
abbrev pub asked : List Asked
asked =
    record { brt = 3500; answer = Err RateOff }
    ∷ record { brt = 3600; answer = (Ok tt) }
    ∷ record { brt = 3906250; answer = (Ok tt) }
    ∷ record { brt = 3906251; answer = Err RateOff }
    ∷ record { brt = 4000000; answer = Err RateOff } ∷ []

pub verdicts : map (λ (a : Asked). verdict_of (first_fault (rate_checks 60000000 4000000 a.brt))) asked ≡ map (λ (a : Asked). a.answer) asked
unfolding first_fault rate_checks rate_off clocking_of rough_m counted_m
verdicts = refl
