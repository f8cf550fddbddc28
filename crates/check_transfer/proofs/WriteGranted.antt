-- What a packet that is granted in a write or in a read is. Assumes nothing.
use mathlib.Core.Bool.{true, false, ◌&&◌}
use mathlib.Core.List.{List}
use Rattle.std.specs.Prelude.{None, Option, Some}
use mathlib.Core.Path.{◌≡◌, refl}
use Prim.Native.Nat.{ℕ, ◌+◌, ◌%◌, ◌≤◌}
use lib.ListN.{get_or}
use lib.Dec.{eqb}
use borrow.Author.Tests.{eqb-true, not-false}
use Rattle.verdict.specs.declared.Reason.{Reason}
use Rattle.verdict.specs.Check.{Check, first_fault, NoneApplies}
use Rattle.verdict.proofs.FirstFault.{clear, clear_left, clear_right}
use Rattle.profile.specs.declared.Area.{Area}
use Rattle.packet.specs.Packet.{ending_checks}
use Rattle.packet.proofs.Laws.{impossible, both}
use Rattle.flash.specs.Effects.{fetched}
use Rattle.flash_blank.specs.Blank.{searched}
use Rattle.state.specs.declared.Range.{Range}
use Rattle.packet_fields.specs.Fields.{code_at, info_count}
use Rattle.check_transfer.proofs.TransferLaws.{amount_code, amount_any, amount_most}
use Rattle.check_transfer.specs.Transfer.{is_dirty, amount_checks, unit_before, units_checks, target_checks, write_checks, asks_next, next_checks}

is_clean : (s : Option ℕ) → is_dirty s ≡ false → s ≡ None
is_clean None e = refl
is_clean (Some n) e = impossible (cc)

-- a packet that is granted in a write
module _ (areas : List Area) (image : List ℕ) (r : Range) (q : List ℕ) (granted : first_fault (write_checks areas image r q) ≡ None) where
  -- WAU of the area in which the packet's last byte goes, and the checks with it
  abbrev unit : ℕ
  unit = unit_before areas (r.next + info_count q)

  abbrev units : List (Check Reason)
  units = units_checks areas image r.next (info_count q) unit

  pub write_ends : first_fault (ending_checks q) ≡ None
  unfolding write_checks
  write_ends = clear_left (ending_checks q) (target_checks areas image r q) granted

  target_clear : first_fault (target_checks areas image r q) ≡ None
  unfolding write_checks
  target_clear = clear_right (ending_checks q) (target_checks areas image r q) granted

  amount : first_fault (amount_checks r.left q) ≡ None
  unfolding target_checks
  amount = clear_left (amount_checks r.left q) units target_clear

  units_clear : NoneApplies units
  unfolding target_checks
  units_clear = clear units (clear_right (amount_checks r.left q) units target_clear)

  pub write_code : code_at q ≡ 0x13
  write_code = amount_code r.left q amount

  pub write_any : info_count q ≡ 0 → ⊥
  write_any = amount_any r.left q amount

  pub write_most : info_count q ≤ r.left
  write_most = amount_most r.left q amount

  pub write_units : (r.next + info_count q) % unit_before areas (r.next + info_count q) ≡ 0
  unfolding units_checks NoneApplies
  write_units = eqb-true ((r.next + info_count q) % unit) 0 (not-false (eqb ((r.next + info_count q) % unit) 0) units_clear.0)

  pub write_blank : searched (unit_before areas (r.next + info_count q)) (fetched areas r.next (info_count q) image) ≡ None
  unfolding units_checks NoneApplies
  write_blank = is_clean (searched unit (fetched areas r.next (info_count q) image)) units_clear.1.0

-- a packet that is granted in a read
module _ (q : List ℕ) (granted : first_fault (next_checks q) ≡ None) where
  pub next_ends : first_fault (ending_checks q) ≡ None
  unfolding next_checks
  next_ends = clear_left (ending_checks q) _ granted

  pub next_asks : asks_next q ≡ true
  unfolding next_checks NoneApplies
  next_asks = not-false (asks_next q) (clear _ (clear_right (ending_checks q) _ granted)).0

  pub next_code : code_at q ≡ 0x15
  unfolding asks_next
  next_code = eqb-true (code_at q) 0x15 (both (eqb (code_at q) 0x15) (eqb (info_count q) 1 && eqb (get_or q 4 0) 0x00) next_asks).0
