-- An area in a part of its own is the one in the bytes. Assumes nothing.
use mathlib.Core.List.{List, ◌∷◌}
use mathlib.Core.Path.{◌≡◌, refl, sym, ap, ◌∙◌}
use Prim.Native.Nat.{ℕ, zero, suc, ◌+◌, ◌-◌, ◌<◌, ◌≤◌}
use native.Mathlib.Nat.{add-zero}
use native.Mathlib.Omega.{arith}
use lib.ListN.{length, take, drop, get_or, length-drop}
use lib.Seq.{length-take-le, get_or-take, get_or-drop}
use Rattle.numbers.specs.Bytes.{number}
use Rattle.profile.specs.declared.Area.{Area}
use Rattle.packet_fields.specs.Fields.{four_at, bytes_from}
use Rattle.profile_bytes.specs.Profile.{area_at, areas_from}
use Rattle.packet_fields.proofs.Laws.{value_read}
use Rattle.packet_fields.proofs.Spelled.{from_part}

-- bytes, and a number, of a part
byte_part : (m at : ℕ) (bs : List ℕ) (k : ℕ) → k < m → get_or (take m (drop at bs)) k 0 ≡ get_or bs (at + k) 0
byte_part m at bs k h = get_or-take m (drop at bs) k 0 h ∙ get_or-drop at bs k 0

bytes_part : (m at : ℕ) (bs : List ℕ) (n k : ℕ) → k + n ≤ m → bytes_from n k (take m (drop at bs)) ≡ bytes_from n (at + k) bs
unfolding bytes_from
bytes_part m at bs zero k h = refl
bytes_part m at bs (suc n) k h =
    let e : at + (k + 1) ≡ at + k + 1 = omega arith in
    let more : bytes_from n (k + 1) (take m (drop at bs)) ≡ bytes_from n (at + k + 1) bs =
    bytes_part m at bs n (k + 1) (omega arith) ∙ ap (λ (j : ℕ). bytes_from n j bs) e in
    rw (byte_part m at bs k (omega arith), more) refl

four_read : (at : ℕ) (bs : List ℕ) → at + 4 ≤ length bs → four_at bs at ≡ number (bytes_from 4 at bs)
unfolding four_at
four_read at bs h = value_read 4 at bs h ∙ ap number (sym (from_part 4 at bs h))

part_length : (m at : ℕ) (bs : List ℕ) → at + m ≤ length bs → length (take m (drop at bs)) ≡ m
part_length m at bs h =
    let d : length (drop at bs) ≡ length bs - at = length-drop at bs in
    length-take-le m (drop at bs) (omega arith)

four_part : (m at : ℕ) (bs : List ℕ) (k : ℕ) → at + m ≤ length bs → k + 4 ≤ m → four_at (take m (drop at bs)) k ≡ four_at bs (at + k)
four_part m at bs k h i =
    let l : length (take m (drop at bs)) ≡ m = part_length m at bs h in
    four_read k (take m (drop at bs)) (omega arith) ∙ ap number (bytes_part m at bs 4 k i) ∙ sym (four_read (at + k) bs (omega arith))

-- an area in 17 bytes that were cut out
area_part : (at : ℕ) (bs : List ℕ) → at + 17 ≤ length bs → area_at (take 17 (drop at bs)) 0 ≡ area_at bs at
area_part at bs h =
    rw (
      byte_part 17 at bs 0 (omega arith),
      four_part 17 at bs 1 h (omega arith),
      four_part 17 at bs 5 h (omega arith),
      four_part 17 at bs 9 h (omega arith),
      four_part 17 at bs 13 h (omega arith),
      add-zero at,
    )
    refl

-- such an area in front of the areas behind it
pub part_more : (n at : ℕ) (bs : List ℕ) {a : Area} {more : List Area} → at + 17 ≤ length bs → a ≡ area_at (take 17 (drop at bs)) 0
    → more ≡ areas_from n (at + 17) bs → a ∷ more ≡ areas_from (suc n) at bs
unfolding areas_from
part_more n at bs h e f = rw (e, f, area_part at bs h) refl
