-- Checks in their stated order, of which the first that applies gives the answer.
use Rattle.std.specs.Prelude.{Bool, true, false, List, [], ◌∷◌, ◌++◌, ◌≡◌, Result, Ok, Err, Option, None, Some}
use Rattle.verdict.specs.declared.Reason.{Reason}

-- a fault, and the reason that is given where it applies
infix 20 ◌gives◌
pub data Check (A : Type 0) : Type 0 where
  ◌gives◌ : Bool → A → Check A

unfoldable pub first_fault : {A : Type 0} → List (Check A) → Option A
first_fault [] = None
first_fault ((true gives a) ∷ later) = Some a
first_fault ((false gives a) ∷ later) = first_fault later

-- no fault was found
abbrev pub passes : {A : Type 0} → Option A → Bool
passes None = true
passes (Some a) = false

-- no fault of the list applies
unfoldable pub NoneApplies : {A : Type 0} → List (Check A) → Type 0
NoneApplies [] = Unit {0}
NoneApplies ((fault gives a) ∷ later) = (fault ≡ false) × NoneApplies later

-- the first fault of the list that applies: behind faults of which none does
pub record IsFirst {A : Type 0} (checks : List (Check A)) (a : A) : Type 0 where
  pub before : List (Check A)
  pub behind : List (Check A)
  pub split : checks ≡ before ++ (true gives a) ∷ behind
  pub quiet : NoneApplies before

-- what is checked is granted where there is no first fault, and else refused by it
abbrev pub verdict_of : {A : Type 0} → Option A → Result (Unit {0}) A
verdict_of None = Ok tt
verdict_of (Some a) = Err a

-- what a request is answered: granted, or refused for a reason
abbrev pub Verdict : Type 0
Verdict = Result (Unit {0}) Reason
