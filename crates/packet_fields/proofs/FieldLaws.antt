-- A number in a field reads back, and bytes that were read as a number are its bytes. Assumes nothing.
use mathlib.Core.List.{List, [], ◌∷◌, ◌++◌}
use mathlib.Core.Path.{◌≡◌, refl, sym, ap, ◌∙◌}
use Prim.Native.Nat.{ℕ, zero, suc, ◌+◌, ◌^◌, ◌≤◌, ◌<◌}
use native.Mathlib.Nat.{add-zero}
use native.Mathlib.Omega.{arith}
use lib.ListN.{length, get_or}
use Rattle.numbers.specs.Bytes.{number, bytes_of, field, number_at, AllBytes}
use Rattle.numbers.proofs.RoundTrip.{number_back, bytes_number}
use Rattle.packet_fields.specs.Fields.{value_of, four_at, two_at, bytes_from}
use Rattle.packet_fields.proofs.Spelled.{from_part}
use Rattle.packet_fields.proofs.Laws.{value_read}

-- a field that holds a number's bytes
field_back : (w n at : ℕ) (bs : List ℕ) → at + w ≤ length bs → n < 256 ^ w → field w at bs ≡ bytes_of w n → value_of (number_at w bs at) ≡ n
field_back w n at bs h f e = value_read w at bs h ∙ ap number e ∙ number_back w n f

pub four_back : (n at : ℕ) (bs : List ℕ) → at + 4 ≤ length bs → n < 4294967296 → field 4 at bs ≡ bytes_of 4 n → four_at bs at ≡ n
unfolding four_at
four_back n at bs = field_back 4 n at bs

pub two_back : (n at : ℕ) (bs : List ℕ) → at + 2 ≤ length bs → n < 65536 → field 2 at bs ≡ bytes_of 2 n → two_at bs at ≡ n
unfolding two_at
two_back n at bs = field_back 2 n at bs

byte_below : (bs : List ℕ) → AllBytes bs → (i : ℕ) → get_or bs i 0 < 256
unfolding AllBytes
byte_below [] t i = omega arith
byte_below (b ∷ bs) t zero = t.0
byte_below (b ∷ bs) t (suc i) = byte_below bs t.1 i

from_bytes : (n at : ℕ) (bs : List ℕ) → AllBytes bs → AllBytes (bytes_from n at bs)
unfolding AllBytes bytes_from
from_bytes zero at bs t = tt
from_bytes (suc n) at bs t = (byte_below bs t at, from_bytes n (at + 1) bs t)

from_length_lem : (n at : ℕ) (bs : List ℕ) → length (bytes_from n at bs) ≡ n
unfolding bytes_from
from_length_lem zero at bs = refl
from_length_lem (suc n) at bs = ap suc (from_length_lem n (at + 1) bs)

-- a number that was read in a field
back_field : (w at : ℕ) (bs : List ℕ) → AllBytes bs → at + w ≤ length bs → bytes_of w (value_of (number_at w bs at)) ≡ bytes_from w at bs
back_field w at bs t h =
    let l : List ℕ = bytes_from w at bs in
    ap (bytes_of w) (value_read w at bs h ∙ ap number (sym (from_part w at bs h)))
    ∙ ap (λ (k : ℕ). bytes_of k (number l)) (sym (from_length_lem w at bs))
    ∙ bytes_number l (from_bytes w at bs t)

pub back_four : (at : ℕ) (bs : List ℕ) → AllBytes bs → at + 4 ≤ length bs → bytes_of 4 (four_at bs at) ≡ bytes_from 4 at bs
unfolding four_at
back_four at bs = back_field 4 at bs

pub back_two : (at : ℕ) (bs : List ℕ) → AllBytes bs → at + 2 ≤ length bs → bytes_of 2 (two_at bs at) ≡ bytes_from 2 at bs
unfolding two_at
back_two at bs = back_field 2 at bs

-- entries from a place on, in two parts
pub from_append : (m n at : ℕ) (bs : List ℕ) → bytes_from (m + n) at bs ≡ bytes_from m at bs ++ bytes_from n (at + m) bs
unfolding bytes_from
from_append zero n at bs =
    let e : 0 + n ≡ n = omega arith in
    rw (e, add-zero at) refl
from_append (suc m) n at bs =
    let e : suc m + n ≡ suc (m + n) = omega arith in
    let f : at + suc m ≡ at + 1 + m = omega arith in
    rw (e, f) (ap (λ (t : List ℕ). get_or bs at 0 ∷ t) (from_append m n (at + 1) bs))
