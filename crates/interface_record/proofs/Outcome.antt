-- What a record that is written from outside leaves; no second outcome. Assumes nothing.
use mathlib.Core.List.{List}
use mathlib.Core.Path.{◌≡◌, refl, ap, ◌∙◌}
use Prim.Native.Nat.{ℕ, ◌≤◌, ◌<◌}
use native.Mathlib.Omega.{arith}
use Rattle.verdict.proofs.OneAnswer.{one_answer}
use Rattle.recording.specs.declared.Direction.{Direction}
use Rattle.recording.specs.declared.Direction.TheVariants.{Host, Device, Reset}
use Rattle.recording.specs.declared.Fault.TheVariants.{BadDirection}
use Rattle.recording.specs.Format.{direction_number, directed_of, fault_number}
use Rattle.recording.proofs.Laws.{directed_number}
use Rattle.record_writer.specs.Writing.{Wrote}
use Rattle.record_writer.proofs.Laws.{direction_refused}
use Rattle.std.specs.Prelude.{Option, Result, Some, None}
use Rattle.recording.specs.declared.Fault.{Fault}
use Rattle.interface_record.specs.Post.{written_number, place_by, ReadsBytes, WritesBytes}

-- from what the writer answered
pub written_bytes : (direction at : ℕ) (bytes before after : List ℕ) (w : Result ℕ Fault) → Wrote direction at bytes before after w
    → (r to : ℕ) → r ≡ written_number w → to ≡ place_by at w → WritesBytes direction at bytes before after r to
written_bytes direction at bytes before after w wrote r to a b =
    record {
      number = a ∙ ap written_number wrote.answers;
      behind = b ∙ ap (place_by at) wrote.answers;
      leaves = wrote.leaves;
    }

-- a number that is no byte is no direction
no_byte : (n : ℕ) → 255 < n → directed_of n ≡ None
no_byte n h = by (directed_of n) refl
  where
    low : (d : Direction) → direction_number d ≤ 255
    low Host = omega arith
    low Device = omega arith
    low Reset = omega arith

    by : (x : Option Direction) → directed_of n ≡ x → x ≡ None
    by (Some d) e = absurd (omega (arith, low d, directed_number n d e))
    by None e = refl

pub number_refused : (direction at : ℕ) (bytes before : List ℕ) → 255 < direction → (r to : ℕ) → r ≡ fault_number BadDirection → to ≡ at
    → WritesBytes direction at bytes before before r to
number_refused direction at bytes before h r to a b =
    written_bytes direction at bytes before before _ (direction_refused direction at bytes before (no_byte direction h)) r to a b

-- no second outcome meets the promises
pub read_once : {recording : List ℕ} {at r r' from from' to to' : ℕ} → ReadsBytes recording at r from to → ReadsBytes recording at r' from' to'
    → (r ≡ r') × ((from ≡ from') × (to ≡ to'))
read_once a b = (one_answer a.number b.number, (one_answer a.first b.first, one_answer a.behind b.behind))

pub written_once : {direction at : ℕ} {bytes before after after' : List ℕ} {r r' to to' : ℕ} → WritesBytes direction at bytes before after r to
    → WritesBytes direction at bytes before after' r' to' → (r ≡ r') × ((to ≡ to') × (after ≡ after'))
written_once a b = (one_answer a.number b.number, (one_answer a.behind b.behind, one_answer a.leaves b.leaves))
