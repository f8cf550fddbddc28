-- A baud rate is granted exactly when BRT is not 0, is at most RMB, and the exact rate lies within 4 % of BRT. Assumes nothing.
use Rattle.std.specs.Prelude.{None}
use mathlib.Core.Path.{◌≡◌}
use Prim.Native.Nat.{ℕ, ◌*◌, ◌≤◌}
use borrow.Author.Tests.{ltb-false, eqb-false, le-ltb, ne_eqb}
use Rattle.verdict.specs.Check.{first_fault, NoneApplies}
use Rattle.verdict.proofs.FirstFault.{clear, grants}
use Rattle.baud.specs.Rate.{clocking_of, divisor_of, rough_m, counted_m, apart_of, rate_off, rate_checks}

-- the exact rate and BRT, both times the divisor
abbrev pub given_of : ℕ → ℕ → ℕ
given_of sci brt = sci * counted_m (rough_m sci brt)

abbrev pub wanted_of : ℕ → ℕ → ℕ
wanted_of sci brt = brt * divisor_of (clocking_of sci brt)

pub record RateFits (sci rmb brt : ℕ) : Type 0 where
  pub nonzero : brt ≡ 0 → ⊥
  pub within : brt ≤ rmb
  pub near : 100 * apart_of (given_of sci brt) (wanted_of sci brt) ≤ 4 * wanted_of sci brt

pub granted_fits : (sci rmb brt : ℕ) → first_fault (rate_checks sci rmb brt) ≡ None → RateFits sci rmb brt
unfolding NoneApplies rate_checks rate_off
granted_fits sci rmb brt e =
    let quiet = clear (rate_checks sci rmb brt) e in
    record { nonzero = eqb-false brt 0 quiet.0; within = ltb-false rmb brt quiet.1.0; near = ltb-false _ _ quiet.1.1.0 }

pub fits_granted : (sci rmb brt : ℕ) → RateFits sci rmb brt → first_fault (rate_checks sci rmb brt) ≡ None
unfolding NoneApplies rate_checks rate_off
fits_granted sci rmb brt fits =
    grants (rate_checks sci rmb brt)
    (ne_eqb brt 0 fits.nonzero, (le-ltb rmb brt fits.within, (le-ltb _ _ fits.near, tt)))
