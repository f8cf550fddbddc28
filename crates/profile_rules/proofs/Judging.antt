-- What was found and counted in the table, with the checks behind it, gives the judgement. Assumes nothing.
use mathlib.Core.List.{List, ◌++◌}
use Rattle.std.specs.Prelude.{Option, None, Some, Result, Ok, Err}
use mathlib.Core.Path.{◌≡◌, refl, sym, ap, ◌∙◌}
use Prim.Native.Nat.{ℕ}
use native.Mathlib.Omega.{arith}
use Rattle.verdict.specs.Check.{first_fault}
use Rattle.profile.specs.declared.Area.{Area}
use Rattle.profile.specs.declared.Profile.{Profile}
use Rattle.profile.specs.Areas.{areas_of, tally, total_of}
use Rattle.profile_rules.specs.declared.Rule.{Rule}
use Rattle.profile_rules.specs.declared.Tallies.{Tallies}
use Rattle.profile_rules.specs.Rules.{acceptance_of, config, small_config, table_checks, tail_checks, profile_checks, Accepted}
use Rattle.profile_rules.specs.Judged.{tallies_of, surveyed_as, survey_of, judged_as, judged_of}
use Rattle.profile_rules.proofs.Laws.{goes_on, stops}

-- what a walk answers that comes to the table's end
pub counted_all : (areas : List Area) (f : Option Rule) (configs small total : ℕ) → f ≡ None
    → configs ≡ tally config areas → small ≡ tally small_config areas → total ≡ total_of areas
    → ◌≡◌ {A = Result Tallies Rule} (Ok (record { configs = configs; small = small; total = total })) (surveyed_as f (tallies_of areas))
counted_all areas f configs small total e p q r = rw (e, p, q, r) refl

-- the walk's answer tells the table's first fault, and what was counted where there is none
broken_as : (f : Option Rule) (t : Tallies) (rule : Rule) → surveyed_as f t ≡ Err rule → f ≡ Some rule
broken_as None t rule e = let z : ◌≡◌ {A = ℕ} 0 1 = cc in absurd (omega arith)
broken_as (Some other) t rule e = let same : other ≡ rule = cc in ap Some same

fine_as : (f : Option Rule) (t counted : Tallies) → surveyed_as f t ≡ Ok counted → (f ≡ None) × (counted ≡ t)
fine_as None t counted e = let same : counted ≡ t = cc in (refl, same)
fine_as (Some other) t counted e = let z : ◌≡◌ {A = ℕ} 0 1 = cc in absurd (omega arith)

module _ (p : Profile) (r : Result Tallies Rule) (e : r ≡ survey_of (areas_of p)) where
  -- the table's first fault is that of all checks from the table on; where it has none, those behind it decide
  pub breaks_table : (rule : Rule) → r ≡ Err rule → first_fault (table_checks 0 0 (areas_of p) ++ tail_checks p) ≡ Some rule
  unfolding survey_of
  breaks_table rule h =
      stops (table_checks 0 0 (areas_of p)) (tail_checks p) rule
      (ap acceptance_of (broken_as (first_fault (table_checks 0 0 (areas_of p))) (tallies_of (areas_of p)) rule (sym e ∙ h)))

  pub tail_decides : (counted : Tallies) → r ≡ Ok counted → first_fault (table_checks 0 0 (areas_of p) ++ tail_checks p) ≡ first_fault (tail_checks p)
  unfolding survey_of
  tail_decides counted h =
      goes_on (table_checks 0 0 (areas_of p)) (tail_checks p)
      (ap acceptance_of (fine_as (first_fault (table_checks 0 0 (areas_of p))) (tallies_of (areas_of p)) counted (sym e ∙ h)).0)

  pub tallies_are : (counted : Tallies) → r ≡ Ok counted → counted ≡ tallies_of (areas_of p)
  unfolding survey_of
  tallies_are counted h = (fine_as (first_fault (table_checks 0 0 (areas_of p))) (tallies_of (areas_of p)) counted (sym e ∙ h)).1

-- a judgement by the first fault of all checks
module _ (f : Option Rule) (n : ℕ) where
  pub judged_broken : (rule : Rule) → f ≡ Some rule → Err rule ≡ judged_as f n
  judged_broken rule e = rw e refl

  pub judged_fine : (m : ℕ) → f ≡ None → m ≡ n → Ok m ≡ judged_as f n
  judged_fine m e h = rw (e, h) refl

-- what callers read from it
module _ (p : Profile) (r : Result ℕ Rule) (e : r ≡ judged_of p) where
  by : (f : Option Rule) (n : ℕ) (x : Result ℕ Rule) → x ≡ judged_as f n → (rule : Rule) → x ≡ Err rule → f ≡ Some rule
  by None n x d rule h = let z : ◌≡◌ {A = ℕ} 0 1 = cc in absurd (omega arith)
  by (Some other) n x d rule h = let same : other ≡ rule = cc in ap Some same

  fine : (f : Option Rule) (n : ℕ) (x : Result ℕ Rule) → x ≡ judged_as f n → (m : ℕ) → x ≡ Ok m → (f ≡ None) × (m ≡ n)
  fine None n x d m h = let same : m ≡ n = cc in (refl, same)
  fine (Some other) n x d m h = let z : ◌≡◌ {A = ℕ} 0 1 = cc in absurd (omega arith)

  -- a refused profile breaks the rule that is told
  pub broken_of : (rule : Rule) → r ≡ Err rule → first_fault (profile_checks p) ≡ Some rule
  unfolding judged_of
  broken_of rule h = by (first_fault (profile_checks p)) (total_of (areas_of p)) r e rule h

  -- an accepted one asks for its areas' bytes
  pub total_of_lem : (m : ℕ) → r ≡ Ok m → Accepted p × (m ≡ total_of (areas_of p))
  unfolding judged_of Accepted
  total_of_lem m h = fine (first_fault (profile_checks p)) (total_of (areas_of p)) r e m h
