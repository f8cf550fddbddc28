-- Two lists of checks, one after the other, and the table's checks from an entry on. Assumes nothing.
use mathlib.Core.List.{List, ◌++◌}
use Rattle.std.specs.Prelude.{None, Some, Ok, Err}
use mathlib.Core.Path.{◌≡◌, refl}
use Prim.Native.Nat.{ℕ, ◌+◌, ◌≤◌, ◌<◌}
use lib.ListN.{length, drop, get_or, drop_of_length-le}
use Rattle.verdict.specs.Check.{Check, first_fault}
use Rattle.verdict.proofs.FirstFault.{granted_clear, refused_fault, fault_left, fault_right}
use Rattle.profile.specs.declared.Area.{Area}
use Rattle.profile.specs.Areas.{no_area}
use Rattle.profile.proofs.Table.{areas_next}
use Rattle.profile_rules.specs.declared.Rule.{Rule}
use Rattle.profile_rules.specs.Rules.{acceptance_of, area_checks, table_checks}

-- what comes after an acceptable list decides; a rule that the first list finds broken stays the first
module _ (xs ys : List (Check Rule)) where
  pub goes_on : acceptance_of (first_fault xs) ≡ Ok tt → first_fault (xs ++ ys) ≡ first_fault ys
  goes_on e = fault_right xs ys (granted_clear (first_fault xs) e)

  pub stops : (rule : Rule) → acceptance_of (first_fault xs) ≡ Err rule → first_fault (xs ++ ys) ≡ Some rule
  stops rule e = fault_left xs ys rule (refused_fault (first_fault xs) rule e)

-- the checks of the areas from number i on
module _ (areas : List Area) (i free : ℕ) where
  pub table_next : i < length areas → acceptance_of (first_fault (area_checks i free (get_or areas i no_area))) ≡ Ok tt
      → first_fault (table_checks i free (drop i areas)) ≡ first_fault (table_checks (i + 1) ((get_or areas i no_area).ead + 1) (drop (i + 1) areas))
  unfolding table_checks
  table_next h e = rw (areas_next areas i h) (goes_on (area_checks i free (get_or areas i no_area)) _ e)

  pub table_stops : (rule : Rule) → i < length areas → acceptance_of (first_fault (area_checks i free (get_or areas i no_area))) ≡ Err rule
      → first_fault (table_checks i free (drop i areas)) ≡ Some rule
  unfolding table_checks
  table_stops rule h e = rw (areas_next areas i h) (stops (area_checks i free (get_or areas i no_area)) _ rule e)

  pub table_end : length areas ≤ i → first_fault (table_checks i free (drop i areas)) ≡ None
  unfolding table_checks first_fault
  table_end h = rw (drop_of_length-le areas h) refl
