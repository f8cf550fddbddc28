-- What the reader answers, exactly: a record where its bytes stand, the end at the end, otherwise the first fault; and what is read is what
-- was written. Assumes nothing.
use mathlib.Core.Bool.{Bool, true, false, cond}
use mathlib.Core.List.{List, [], ◌∷◌}
use mathlib.Core.Logic.{◌↔◌}
use Rattle.std.specs.Prelude.{Option, None, Some}
use mathlib.Core.Path.{◌≡◌, refl, sym, ap, subst, ◌∙◌}
use Prim.Native.Nat.{ℕ}
use native.Mathlib.Omega.{arith}
use lib.ListN.{length}
use lib.Dec.{eqb}
use borrow.Author.Tests.{eq-eqb, eqb-true}
use Rattle.verdict.specs.Check.{Check, ◌gives◌, first_fault, IsFirst}
use Rattle.verdict.proofs.FirstFault.{found, first, first_found}
use Rattle.recording.specs.declared.Direction.{Direction}
use Rattle.recording.specs.declared.Fault.{Fault}
use Rattle.recording.specs.declared.Fault.TheVariants.{BadMark, BadDirection, BadLength, CutShort, NoRoom}
use Rattle.recording.specs.declared.Part.{Part}
use Rattle.recording.specs.declared.Found.{Found}
use Rattle.recording.specs.declared.Found.TheVariants.{Is, End, Refused}
use Rattle.recording.specs.Format.{direction_number, directed_of, is_known}
use Rattle.recording.specs.Recording.{direction_at, part_at, length_checks, read_checks, found_by, found_at}
use Rattle.recording.proofs.Laws.{directed_number, found_end}
use Rattle.recording.proofs.Reading.{Checked, checked, lies, Lies}

-- what was found is the end, a record to which no check applies, or the first fault
pub data Tells (s : List ℕ) (at : ℕ) : Found → Type 0 where
  at_end : at ≡ length s → Tells s at End
  one : (at ≡ length s → ⊥) → (d : Direction) → Checked s at → first_fault (read_checks s at) ≡ None → directed_of (direction_at s at) ≡ Some d
      → Tells s at (Is d (part_at s at))
  fault : (at ≡ length s → ⊥) → (f : Fault) → first_fault (read_checks s at) ≡ Some f → Tells s at (Refused f)

off_end : (at n : ℕ) → eqb at n ≡ false → at ≡ n → ⊥
off_end at n t e =
    let k : eqb at n ≡ true = eq-eqb at n e in
    let z : ◌≡◌ {A = ℕ} 0 1 = cc in
    omega arith

pub tells : (s : List ℕ) (at : ℕ) → Tells s at (found_at s at)
unfolding found_at
tells s at = by (eqb at (length s)) refl
  where
    known : (k : Option Direction) → is_known k ≡ true → directed_of (direction_at s at) ≡ k → (at ≡ length s → ⊥) → first_fault (read_checks s at) ≡ None
        → Tells s at (found_by None k (part_at s at))
    known (Some d) i e off n = one off d (checked s at n) n e
    known None i e off n = let z : ◌≡◌ {A = ℕ} 0 1 = cc in absurd (omega arith)

    found : (f : Option Fault) → first_fault (read_checks s at) ≡ f → (at ≡ length s → ⊥) → Tells s at (found_by f (directed_of (direction_at s at)) (part_at s at))
    found (Some f) e off = fault off f e
    found None e off = known (directed_of (direction_at s at)) (checked s at e).known refl off e

    by : (t : Bool) → eqb at (length s) ≡ t
        → Tells s at (cond t End (found_by (first_fault (read_checks s at)) (directed_of (direction_at s at)) (part_at s at)))
    by true e = at_end (eqb-true at (length s) e)
    by false e = found (first_fault (read_checks s at)) refl (off_end at (length s) e)

module _ (s : List ℕ) (at : ℕ) where
  pub end_exactly : (found_at s at ≡ End) ↔ (at ≡ length s)
  end_exactly = (λ e. subst (Lies at (length s)) e (lies s at), λ e. sym (found_end s at e))

  pub refused_exactly : (f : Fault) → (found_at s at ≡ Refused f) ↔ ((at ≡ length s → ⊥) × IsFirst (read_checks s at) f)
  refused_exactly f = (λ e. by (found_at s at) (tells s at) e, λ h. back (found_at s at) (tells s at) h.0 (first_found (read_checks s at) f h.1))
    where
      by : (x : Found) → Tells s at x → x ≡ Refused f → (at ≡ length s → ⊥) × IsFirst (read_checks s at) f
      by _ (at_end h) e = let z : ◌≡◌ {A = ℕ} 0 1 = cc in absurd (omega arith)
      by _ (one off d k n t) e = let z : ◌≡◌ {A = ℕ} 0 1 = cc in absurd (omega arith)
      by _ (fault off g n) e = let same_fault : g ≡ f = cc in (off, first (read_checks s at) f (n ∙ ap Some same_fault))

      back : (x : Found) → Tells s at x → (at ≡ length s → ⊥) → first_fault (read_checks s at) ≡ Some f → x ≡ Refused f
      back _ (at_end h) off e = absurd (off h)
      back _ (one o d k n t) off e = let z : ◌≡◌ {A = ℕ} 0 1 = cc in absurd (omega arith)
      back _ (fault o g n) off e = let same_fault : Some g ≡ Some f = sym n ∙ e in cc

  -- no check applies to a record, its direction is the byte's, its part the one behind its head
  pub record_tells : (d : Direction) (part : Part) → found_at s at ≡ Is d part → Checked s at × (direction_at s at ≡ direction_number d) × (part ≡ part_at s at)
  record_tells d part e = by (found_at s at) (tells s at) e
    where
      by : (x : Found) → Tells s at x → x ≡ Is d part → Checked s at × (direction_at s at ≡ direction_number d) × (part ≡ part_at s at)
      by _ (at_end h) f = let z : ◌≡◌ {A = ℕ} 0 1 = cc in absurd (omega arith)
      by _ (one off c k n t) f =
          let direction : c ≡ d = cc in
          let place : part_at s at ≡ part = cc in
          (k, directed_number (direction_at s at) c t ∙ ap direction_number direction, sym place)
      by _ (fault off g n) f = let z : ◌≡◌ {A = ℕ} 0 1 = cc in absurd (omega arith)

-- what all checks of a list give, the answer is
unfoldable pub AllGive : (Fault → Type 0) → List (Check Fault) → Type 0
AllGive P [] = Unit {0}
AllGive P ((applies gives f) ∷ later) = P f × AllGive P later

pub gives_only : (P : Fault → Type 0) (cs : List (Check Fault)) (f : Fault) → first_fault cs ≡ Some f → AllGive P cs → P f
unfolding first_fault AllGive
gives_only P [] f e all = absurd (found (sym e))
gives_only P ((true gives g) ∷ later) f e all = let same_fault : g ≡ f = cc in subst P same_fault all.0
gives_only P ((false gives g) ∷ later) f e all = gives_only P later f e all.1

-- a reader never finds that there is no room: that is a fault of writing alone
abbrev Readers : Fault → Type 0
Readers BadMark = Unit {0}
Readers BadDirection = Unit {0}
Readers BadLength = Unit {0}
Readers CutShort = Unit {0}
Readers NoRoom = ⊥

pub never_no_room : (s : List ℕ) (at : ℕ) → found_at s at ≡ Refused NoRoom → ⊥
unfolding AllGive read_checks length_checks
never_no_room s at e =
    gives_only Readers (read_checks s at) NoRoom (first_found (read_checks s at) NoRoom ((refused_exactly s at NoRoom).0 e).1)
    (tt, (tt, (tt, (tt, (tt, (tt, (tt, tt)))))))
