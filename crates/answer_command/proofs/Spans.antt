-- The range of a granted command does not end at the last address, and the number of a granted area is below eight. Assumes nothing.
use mathlib.Core.List.{List}
use Rattle.std.specs.Prelude.{None}
use mathlib.Core.Path.{◌≡◌, sym, ap, subst, ◌∙◌}
use Prim.Native.Nat.{ℕ, ◌+◌, ◌≤◌, ◌<◌}
use native.Mathlib.Omega.{arith}
use borrow.Author.Tests.{leb-false}
use Rattle.verdict.specs.Check.{first_fault, NoneApplies}
use Rattle.verdict.proofs.FirstFault.{clear}
use Rattle.profile.specs.declared.Profile.{Profile}
use Rattle.profile.specs.declared.Window.{Window}
use Rattle.profile.specs.Areas.{areas_of}
use Rattle.profile_rules.specs.Rules.{Accepted}
use Rattle.profile_rules.proofs.Accepted.{sound, below_top}
use Rattle.profile_ranges.specs.declared.Purpose.{Purpose}
use Rattle.profile_ranges.specs.declared.Purpose.TheVariants.{Write as ToWrite, Read as ToRead}
use Rattle.profile_ranges.specs.Ranges.{Permitted}
use Rattle.profile_ranges.proofs.Granted.{in_area_lem}
use Rattle.packet_fields.specs.declared.Com.{Com}
use Rattle.packet_fields.specs.declared.Com.TheVariants.{Write, Read, Area as ComArea}
use Rattle.state.specs.declared.Range.{Range}
use Rattle.state.specs.declared.State.{State}
use Rattle.state.specs.State.{window_of}
use Rattle.packet_fields.specs.Fields.{com_of, code_at, sad_of, ead_of, area_number_of}
use Rattle.check_command.specs.Commands.{area_number_checks, own_checks, command_checks}
use Rattle.check_command.proofs.Granted.{own_clear, granted_write, granted_read}
use Rattle.answer_command.specs.Grants.{span_of}

permitted_span : (p : Profile) (w : Window) (purpose : Purpose) (s e : ℕ) → Accepted p → Permitted (areas_of p) w purpose s e → (s ≤ e) × (e ≤ 4294967294)
permitted_span p w purpose s e a g =
    let l = in_area_lem (areas_of p) w purpose s e g in
    let top = below_top 0 0 (areas_of p) s l.spot (sound p a).areas l.in_area.found in
    (l.in_area.ordered, omega (arith, top, l.in_area.ends))

-- what a granted command says of its range and its area number
module _ (p : Profile) (st : State) (q : List ℕ) (a : Accepted p) (granted : first_fault (command_checks p st q) ≡ None) where
  pub write_span : com_of (code_at q) ≡ Write → (sad_of q ≤ ead_of q) × (ead_of q ≤ 4294967294)
  write_span e = permitted_span p (window_of p st) ToWrite (sad_of q) (ead_of q) a (granted_write p st q granted e)

  pub read_span : com_of (code_at q) ≡ Read → (sad_of q ≤ ead_of q) × (ead_of q ≤ 4294967294)
  read_span e = permitted_span p (window_of p st) ToRead (sad_of q) (ead_of q) a (granted_read p st q granted e)

  pub area_number : com_of (code_at q) ≡ ComArea → area_number_of q < 8
  unfolding own_checks area_number_checks NoneApplies
  area_number e =
      let own : first_fault (area_number_checks p.noa q) ≡ None = ap (λ (k : Com). first_fault (own_checks p st k q)) (sym e) ∙ own_clear p st q granted in
      let n = clear (area_number_checks p.noa q) own in
      omega (arith, leb-false p.noa (area_number_of q) n.0, (sound p a).at_most_eight)

-- such a range ends with the addresses
pub span_ends : (r : Range) (s e : ℕ) → r ≡ span_of s e → s ≤ e → e ≤ 4294967294 → r.next + r.left ≤ 4294967296
span_ends r s e f h k = subst (λ (v : Range). v.next + v.left ≤ 4294967296) (sym f) (omega arith)
