-- The checks on a range of addresses, SAD to EAD: D0h, then DAh. Commands and "a state fits" both use them.
use Rattle.std.specs.Prelude.{Bool, true, false, ◌&&◌, not, List, [], ◌∷◌, ◌++◌, ◌≡◌, ℕ, ◌+◌, ◌%◌, leb, ltb, eqb, None, Option, Some}
use Rattle.verdict.specs.declared.Reason.{Reason}
use Rattle.verdict.specs.declared.Reason.TheVariants.{Reversed, StartNowhere, EndNowhere, TwoAreas, NoUnit, StartUnaligned, EndUnaligned, BelowWindow, AboveWindow}
use Rattle.verdict.specs.Check.{Check, ◌gives◌, first_fault, passes}
use Rattle.profile.specs.declared.Area.{Area}
use Rattle.profile.specs.declared.Window.{Window}
use Rattle.profile.specs.Areas.{no_area, inside}
use Rattle.profile.specs.Places.{place_of}
use Rattle.profile_ranges.specs.declared.Purpose.{Purpose}
use Rattle.profile.specs.declared.Spot.{Spot}
use Rattle.profile_ranges.specs.declared.Purpose.TheVariants.{Erase, Write, Read}

-- the unit is 0, or doesn't divide SAD and EAD + 1
unfoldable pub unit_checks : ℕ → ℕ → ℕ → List (Check Reason)
unit_checks unit s e =
    (eqb unit 0 gives NoUnit)
    ∷ (not (eqb (s % unit) 0) gives StartUnaligned)
    ∷ (not (eqb ((e + 1) % unit) 0) gives EndUnaligned)
    ∷ []

-- user areas only, and only where low differs from high
unfoldable pub limited : Window → ℕ → Bool
limited w koa = eqb koa 0 && not (eqb w.low w.high)

-- at or above low and below high
unfoldable pub window_checks : Window → ℕ → ℕ → ℕ → List (Check Reason)
window_checks w koa s e =
    (limited w koa && ltb s w.low gives BelowWindow)
    ∷ (limited w koa && leb w.high e gives AboveWindow)
    ∷ []

unfoldable pub change_checks : Area → Window → ℕ → ℕ → ℕ → List (Check Reason)
change_checks a w unit s e = unit_checks unit s e ++ window_checks w a.koa s e

-- erase and write change the flash, read does not
unfoldable pub purpose_checks : Purpose → Area → Window → ℕ → ℕ → List (Check Reason)
purpose_checks Erase a w s e = change_checks a w a.eau s e
purpose_checks Write a w s e = change_checks a w a.wau s e
purpose_checks Read a w s e = []

-- a range that starts in area a may be asked for: a holds its end too, and no check of the purpose applies
unfoldable pub within_of : Area → Window → Purpose → ℕ → ℕ → Bool
within_of a w purpose s e = inside a e && passes (first_fault (purpose_checks purpose a w s e))

abbrev pub nowhere : Option Spot → Bool
nowhere (Some spot) = false
nowhere None = true

-- the area of a place that was found; that of nowhere never decides: proofs/Granted, `start_Area`
abbrev pub area_of : Option Spot → Area
area_of (Some spot) = spot.area
area_of None = no_area

-- the checks of a range that starts in area a
unfoldable pub end_checks : List Area → Area → Window → Purpose → ℕ → ℕ → List (Check Reason)
end_checks areas a w purpose s e =
    (nowhere (place_of areas e) gives EndNowhere)
    ∷ (not (inside a e) gives TwoAreas)
    ∷ purpose_checks purpose a w s e

unfoldable pub range_checks : List Area → Window → Purpose → ℕ → ℕ → List (Check Reason)
range_checks areas w purpose s e =
    (ltb e s gives Reversed)
    ∷ (nowhere (place_of areas s) gives StartNowhere)
    ∷ end_checks areas (area_of (place_of areas s)) w purpose s e

-- a range that is granted
unfoldable pub Permitted : List Area → Window → Purpose → ℕ → ℕ → Type 0
Permitted areas w purpose s e = first_fault (range_checks areas w purpose s e) ≡ None
