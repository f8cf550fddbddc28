-- No two answers have one number, and none has 0 but that nothing was read. Assumes nothing.
use mathlib.Core.Bool.{cond}
use mathlib.Core.Path.{◌≡◌, refl, sym, ap, ◌∙◌}
use Prim.Native.Nat.{ℕ, ◌<◌}
use native.Mathlib.Omega.{arith}
use lib.Dec.{eqb}
use Rattle.recording.specs.declared.Direction.{Direction}
use Rattle.recording.specs.declared.Direction.TheVariants.{Host, Device, Reset}
use Rattle.recording.specs.declared.Fault.{Fault}
use Rattle.recording.specs.declared.Fault.TheVariants.{BadMark, BadDirection, BadLength, CutShort, NoRoom}
use Rattle.recording.specs.declared.Found.{Found}
use Rattle.recording.specs.declared.Found.TheVariants.{Is, End, Refused}
use Rattle.recording.specs.declared.Ended.{Ended}
use Rattle.recording.specs.declared.Ended.TheVariants.{Not, Whole, By}
use Rattle.recording.specs.Format.{direction_number, fault_number}
use Rattle.recording.specs.Recording.{end_number, found_number, ended_number}

-- the fault of a number
fault_in : ℕ → Fault
fault_in n = cond (eqb n 1) BadMark (cond (eqb n 2) BadDirection (cond (eqb n 3) BadLength (cond (eqb n 4) CutShort NoRoom)))

fault_back : (f : Fault) → fault_in (fault_number f) ≡ f
unfolding fault_in
fault_back BadMark = refl
fault_back BadDirection = refl
fault_back BadLength = refl
fault_back CutShort = refl
fault_back NoRoom = refl

pub fault_once : (f g : Fault) → fault_number f ≡ fault_number g → f ≡ g
fault_once f g e = sym (fault_back f) ∙ ap fault_in e ∙ fault_back g

-- faults stand between 0 and the end, directions behind it
pub fault_positive : (f : Fault) → 0 < fault_number f
fault_positive BadMark = omega arith
fault_positive BadDirection = omega arith
fault_positive BadLength = omega arith
fault_positive CutShort = omega arith
fault_positive NoRoom = omega arith

pub fault_below : (f : Fault) → fault_number f < end_number
fault_below BadMark = omega arith
fault_below BadDirection = omega arith
fault_below BadLength = omega arith
fault_below CutShort = omega arith
fault_below NoRoom = omega arith

pub direction_above : (d : Direction) → end_number < direction_number d
direction_above Host = omega arith
direction_above Device = omega arith
direction_above Reset = omega arith

-- what was found never has 0
pub found_positive : (found : Found) → 0 < found_number found
found_positive (Is d part) = omega (arith, direction_above d)
found_positive End = omega arith
found_positive (Refused f) = fault_positive f

-- how reading ended is told by its number, and 0 is that it did not
pub ended_once : (a b : Ended) → ended_number a ≡ ended_number b → a ≡ b
ended_once Not Not e = refl
ended_once Not Whole e = absurd (omega arith)
ended_once Not (By g) e = absurd (omega (arith, fault_positive g))
ended_once Whole Not e = absurd (omega arith)
ended_once Whole Whole e = refl
ended_once Whole (By g) e = absurd (omega (arith, fault_below g))
ended_once (By f) Not e = absurd (omega (arith, fault_positive f))
ended_once (By f) Whole e = absurd (omega (arith, fault_below f))
ended_once (By f) (By g) e = ap By (fault_once f g e)
