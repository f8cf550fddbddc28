-- A profile is acceptable exactly when it breaks no rule; the rules in the order in which they are tried.
use Rattle.std.specs.Prelude.{Bool, ◌&&◌, ◌||◌, not, cond, List, [], ◌∷◌, ◌++◌, ◌≡◌, ℕ, ◌+◌, ◌%◌, leb, ltb, eqb, Option, None, Result}
use Rattle.verdict.specs.Check.{Check, ◌gives◌, first_fault, verdict_of}
use Rattle.profile.specs.declared.Area.{Area}
use Rattle.profile.specs.declared.Profile.{Profile}
use Rattle.profile.specs.Areas.{areas_of, size_of, tally, total_of}
use Rattle.profile_rules.specs.declared.Rule.{Rule}
use Rattle.profile_rules.specs.declared.Rule.TheVariants.{AreaCount, NoClock, NoTopRate, Kind, EndsBeforeStart, EndsAtTop, NotAbove, EraseUnit, WriteUnit, LongWriteUnit, ConfigCount, ConfigSize, TooLarge, WindowReversed}

-- a unit of 0 is none; any other divides SAD and the area's size
unfoldable pub unit_fits : Area → ℕ → Bool
unit_fits a unit = eqb unit 0 || (eqb (a.sad % unit) 0 && eqb (size_of a % unit) 0)

unfoldable pub head_checks : Profile → List (Check Rule)
head_checks p =
    (ltb p.noa 1 gives AreaCount)
    ∷ (ltb 8 p.noa gives AreaCount)
    ∷ (ltb p.sci 1 gives NoClock)
    ∷ (ltb p.rmb 1 gives NoTopRate)
    ∷ []

-- area number i; free is the first address above the areas before it
unfoldable pub area_checks : ℕ → ℕ → Area → List (Check Rule)
area_checks i free a =
    (ltb 2 a.koa gives Kind i)
    ∷ (ltb a.ead a.sad gives EndsBeforeStart i)
    ∷ (leb 0xFFFFFFFF a.ead gives EndsAtTop i)
    ∷ (ltb a.sad free gives NotAbove i)
    ∷ (not (unit_fits a a.eau) gives EraseUnit i)
    ∷ (not (unit_fits a a.wau) gives WriteUnit i)
    ∷ (ltb 1024 a.wau gives LongWriteUnit i)
    ∷ []

unfoldable pub table_checks : ℕ → ℕ → List Area → List (Check Rule)
table_checks i free [] = []
table_checks i free (a ∷ more) = area_checks i free a ++ table_checks (i + 1) (a.ead + 1) more

-- 1 for a config area, and 1 for one of fewer than 16 bytes
unfoldable pub config : Area → ℕ
config a = cond (eqb a.koa 2) 1 0

unfoldable pub small_config : Area → ℕ
small_config a = cond (eqb a.koa 2 && ltb (size_of a) 16) 1 0

-- exactly one area is config, of at least 16 bytes; sizes total at most 16,777,216; low is at most high
unfoldable pub tail_checks : Profile → List (Check Rule)
tail_checks p =
    (not (eqb (tally config (areas_of p)) 1) gives ConfigCount)
    ∷ (not (eqb (tally small_config (areas_of p)) 0) gives ConfigSize)
    ∷ (ltb 16777216 (total_of (areas_of p)) gives TooLarge)
    ∷ (ltb p.window.high p.window.low gives WindowReversed)
    ∷ []

unfoldable pub profile_checks : Profile → List (Check Rule)
profile_checks p = head_checks p ++ (table_checks 0 0 (areas_of p) ++ tail_checks p)

-- that a profile is acceptable, or the rule that it breaks
abbrev pub Acceptance : Type 0
Acceptance = Result (Unit {0}) Rule

abbrev pub acceptance_of : Option Rule → Acceptance
acceptance_of = verdict_of

-- the name by which later layers know it
unfoldable pub Accepted : Profile → Type 0
Accepted p = first_fault (profile_checks p) ≡ None
