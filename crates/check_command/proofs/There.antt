-- A command of the right length has every byte that its own checks read. Assumes nothing.
use mathlib.Core.List.{List}
use mathlib.Core.Logic.{◌⊎◌, ⊎_elim}
use Rattle.std.specs.Prelude.{None, Some}
use mathlib.Core.Path.{◌≡◌, ap, ◌∙◌}
use Prim.Native.Nat.{ℕ}
use native.Mathlib.Omega.{arith}
use lib.ListN.{length, get_or}
use Rattle.numbers.specs.Bytes.{number, field, number_at}
use Rattle.numbers.proofs.There.{entry_there, number_there}
use Rattle.verdict.specs.Check.{first_fault}
use Rattle.packet_fields.specs.declared.Com.{Com}
use Rattle.packet_fields.specs.declared.Com.TheVariants.{Erase, Write, Read, Authenticate, Baud, Area}
use Rattle.packet_fields.specs.Fields.{com_of, code_at, info_count, info_of, area_number_of, info_length}
use Rattle.packet_fields.proofs.Laws.{info_whole}
use Rattle.state.specs.declared.Stage.{Stage}
use Rattle.check_command.specs.Commands.{form_checks}
use Rattle.check_command.proofs.Granted.{formed}

-- the commands that name a range
abbrev pub NamesRange : Com → Type 0
NamesRange cmd = (cmd ≡ Erase) ⊎ ((cmd ≡ Write) ⊎ (cmd ≡ Read))

module _ (stage : Stage) (q : List ℕ) (right : first_fault (form_checks stage (code_at q) (com_of (code_at q)) (info_count q)) ≡ None) where
  abbrev cmd : Com
  cmd = com_of (code_at q)

  -- its information is as long as its COM asks
  long : (is : Com) → cmd ≡ is → info_count q ≡ info_length is
  long is e = (formed stage (code_at q) cmd (info_count q) right).counted ∙ ap info_length e

  range_long : NamesRange cmd → info_count q ≡ 8
  range_long names = ⊎_elim (long Erase) (λ later. ⊎_elim (long Write) (long Read) later) names

  -- SAD and EAD of a range, BRT of a rate: neither is cut short
  pub sad_there : NamesRange cmd → number_at 4 q 4 ≡ Some (number (field 4 4 q))
  sad_there names = number_there 4 4 q (omega (arith, range_long names))

  pub ead_there : NamesRange cmd → number_at 4 q 8 ≡ Some (number (field 4 8 q))
  ead_there names = number_there 4 8 q (omega (arith, range_long names))

  pub brt_there : cmd ≡ Baud → number_at 4 q 4 ≡ Some (number (field 4 4 q))
  brt_there e = number_there 4 4 q (omega (arith, long Baud e))

  -- an area's number is there, whatever stands for one that is not
  pub area_number_there : cmd ≡ Area → (d : ℕ) → get_or q 4 d ≡ area_number_of q
  area_number_there e d = entry_there q 4 d 0 (omega (arith, long Area e))

  -- a code has sixteen bytes
  pub id_code_there : cmd ≡ Authenticate → length (info_of q) ≡ 16
  id_code_there e =
      let n : info_count q ≡ 16 = long Authenticate e in
      info_whole q (omega arith) ∙ n
