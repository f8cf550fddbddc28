-- What a granted command is: its form is right, its stage permits it, and a range that it names is permitted. Assumes nothing.
use mathlib.Core.Bool.{true, false}
use mathlib.Core.List.{List}
use mathlib.Core.Logic.{◌⊎◌, inl, inr}
use Rattle.std.specs.Prelude.{None}
use mathlib.Core.Path.{◌≡◌, refl, sym, ap, ◌∙◌}
use Prim.Native.Nat.{ℕ}
use native.Mathlib.Omega.{arith}
use lib.Dec.{eqb}
use borrow.Author.Tests.{eqb-true, eqb-false, not-false}
use Rattle.verdict.specs.Check.{first_fault, NoneApplies}
use Rattle.verdict.proofs.FirstFault.{clear, clear_left, clear_right}
use Rattle.profile.specs.declared.Profile.{Profile}
use Rattle.profile.specs.Areas.{areas_of}
use Rattle.profile_ranges.specs.declared.Purpose.TheVariants.{Erase as ToErase, Write as ToWrite, Read as ToRead}
use Rattle.profile_ranges.specs.Ranges.{Permitted}
use Rattle.packet.specs.Packet.{ending_checks}
use Rattle.packet_fields.specs.declared.Com.{Com}
use Rattle.packet_fields.specs.declared.Com.TheVariants.{Erase, Write, Read, Unknown}
use Rattle.state.specs.declared.Stage.{Stage}
use Rattle.state.specs.declared.Stage.TheVariants.{Setting, Authentication, Command, Writing, Reading}
use Rattle.state.specs.declared.State.{State}
use Rattle.state.specs.State.{window_of}
use Rattle.packet_fields.specs.Fields.{com_of, code_at, info_count, sad_of, ead_of, info_length}
use Rattle.check_command.specs.Commands.{is_unknown, stage_wrong, form_checks, own_checks, known_checks, command_checks}

-- what the form of a granted command says
pub record Formed (stage : Stage) (n : ℕ) (cmd : Com) (count : ℕ) : Type 0 where
  pub known : cmd ≡ Unknown → ⊥
  pub counted : count ≡ info_length cmd
  pub staged : stage_wrong stage n ≡ false

apart : true ≡ false → ⊥
apart e = let z : ◌≡◌ {A = ℕ} 0 1 = cc in omega arith

-- no command is granted outside these two stages
permitting : (stage : Stage) (n : ℕ) → stage_wrong stage n ≡ false → (stage ≡ Authentication) ⊎ (stage ≡ Command)
permitting (Setting u) n e = absurd (apart e)
permitting Authentication n e = inl refl
permitting Command n e = inr refl
permitting (Writing r) n e = absurd (apart e)
permitting (Reading r) n e = absurd (apart e)

pub formed : (stage : Stage) (n : ℕ) (cmd : Com) (count : ℕ) → first_fault (form_checks stage n cmd count) ≡ None → Formed stage n cmd count
unfolding form_checks NoneApplies
formed stage n cmd count g =
    let k : NoneApplies (form_checks stage n cmd count) = clear (form_checks stage n cmd count) g in
    record {
      known = λ u. apart (ap is_unknown (sym u) ∙ k.0);
      counted = eqb-true count (info_length cmd) (not-false (eqb count (info_length cmd)) k.1.0);
      staged = k.1.1.0;
    }

module _ (p : Profile) (st : State) (q : List ℕ) (granted : first_fault (command_checks p st q) ≡ None) where
  -- the three parts of its checks are clear
  pub ending_clear : first_fault (ending_checks q) ≡ None
  unfolding command_checks
  ending_clear = clear_left (ending_checks q) (known_checks p st q) granted

  known_clear : first_fault (known_checks p st q) ≡ None
  unfolding command_checks
  known_clear = clear_right (ending_checks q) (known_checks p st q) granted

  pub form_clear : first_fault (form_checks st.stage (code_at q) (com_of (code_at q)) (info_count q)) ≡ None
  unfolding known_checks
  form_clear = clear_left (form_checks st.stage (code_at q) (com_of (code_at q)) (info_count q)) (own_checks p st (com_of (code_at q)) q) known_clear

  pub own_clear : first_fault (own_checks p st (com_of (code_at q)) q) ≡ None
  unfolding known_checks
  own_clear = clear_right (form_checks st.stage (code_at q) (com_of (code_at q)) (info_count q)) (own_checks p st (com_of (code_at q)) q) known_clear

  pub granted_form : Formed st.stage (code_at q) (com_of (code_at q)) (info_count q)
  granted_form = formed st.stage (code_at q) (com_of (code_at q)) (info_count q) form_clear

  -- the stages that permit a command: one 30h alone, the other all else
  pub granted_stage : (st.stage ≡ Authentication) ⊎ (st.stage ≡ Command)
  granted_stage = permitting st.stage (code_at q) granted_form.staged

  pub in_authentication : st.stage ≡ Authentication → code_at q ≡ 0x30
  in_authentication e = eqb-true (code_at q) 0x30 (not-false (eqb (code_at q) 0x30) (ap (λ (s : Stage). stage_wrong s (code_at q)) (sym e) ∙ granted_form.staged))

  pub in_command : st.stage ≡ Command → code_at q ≡ 0x30 → ⊥
  in_command e = eqb-false (code_at q) 0x30 (ap (λ (s : Stage). stage_wrong s (code_at q)) (sym e) ∙ granted_form.staged)

  pub own_of : (cmd : Com) → com_of (code_at q) ≡ cmd → first_fault (own_checks p st cmd q) ≡ None
  own_of cmd e = ap (λ (k : Com). first_fault (own_checks p st k q)) (sym e) ∙ own_clear

  -- its range is permitted
  pub granted_erase : com_of (code_at q) ≡ Erase → Permitted (areas_of p) (window_of p st) ToErase (sad_of q) (ead_of q)
  unfolding own_checks Permitted
  granted_erase e = own_of Erase e

  pub granted_write : com_of (code_at q) ≡ Write → Permitted (areas_of p) (window_of p st) ToWrite (sad_of q) (ead_of q)
  unfolding own_checks Permitted
  granted_write e = own_of Write e

  pub granted_read : com_of (code_at q) ≡ Read → Permitted (areas_of p) (window_of p st) ToRead (sad_of q) (ead_of q)
  unfolding own_checks Permitted
  granted_read e = own_of Read e
