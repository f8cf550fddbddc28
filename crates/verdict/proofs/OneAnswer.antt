-- Two answers that meet the same promise are the same: where the promise is an equation with a definition, for any kind of answer.
-- Assumes nothing.
use mathlib.Core.Path.{◌≡◌, sym, ◌∙◌}

pub one_answer : {A : Type 0} {defined first second : A} → first ≡ defined → second ≡ defined → first ≡ second
one_answer p q = p ∙ sym q
