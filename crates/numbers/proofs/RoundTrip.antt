-- What is written reads back, and what was read is written the same; once over the width. Assumes nothing.
use mathlib.Core.List.{List, [], ◌∷◌, ◌++◌, append_assoc}
use mathlib.Core.Path.{◌≡◌, refl, sym, ap, ◌∙◌}
use Prim.Native.Nat.{ℕ, zero, suc, ◌+◌, ◌*◌, ◌/◌, ◌%◌, ◌^◌, ◌≤◌, ◌<◌}
use native.Mathlib.Nat.{mod-eq_of_lt, mod-one, mul_assoc, pow-succ', add-mul-div_right, add_comm, mul-add-mod_self_right}
use native.Mathlib.Omega.{arith}
use lib.Arith.{mod-mul, digits_lt, digits_div}
use lib.ListN.{length, take, drop, get_or}
use lib.Seq.{sets, sets-eq, length-sets, drop_at, take_at, length-take-le}
use borrow.Author.Tests.{le-leb}
use Rattle.std.specs.Prelude.{Some}
use Rattle.numbers.specs.Bytes.{number, bytes_of, field, value_at, number_at, with_number, AllBytes}

pub bytes_length : (w n : ℕ) → length (bytes_of w n) ≡ w
unfolding bytes_of
bytes_length zero n = refl
bytes_length (suc w) n = ap suc (bytes_length w n)

power_positive : (w : ℕ) → 0 < 256 ^ w
power_positive zero = omega arith
power_positive (suc w) = let h : 0 < 256 ^ w = power_positive w in rw (pow-succ' 256 w) (omega arith)

-- the bytes of a number make it again, as far as the width goes
pub number_bytes : (w n : ℕ) → number (bytes_of w n) ≡ n % 256 ^ w
unfolding number bytes_of
number_bytes zero n = sym (mod-one n)
number_bytes (suc w) n =
    rw (bytes_length w n, number_bytes w n, pow-succ' 256 w) (sym (mod-mul n {m = 256} {c = 256 ^ w} (omega arith) (power_positive w)))

pub number_back : (w n : ℕ) → n < 256 ^ w → number (bytes_of w n) ≡ n
number_back w n h = number_bytes w n ∙ mod-eq_of_lt h

-- bytes in a list, by their places; behind a place; before one
pub are_bytes : (l : List ℕ) → ((i : ℕ) → get_or l i 0 < 256) → AllBytes l
unfolding AllBytes
are_bytes [] h = tt
are_bytes (b ∷ bs) h = (h zero, are_bytes bs (λ i. h (suc i)))

pub all_drop : (n : ℕ) (l : List ℕ) → AllBytes l → AllBytes (drop n l)
unfolding AllBytes
all_drop zero l h = h
all_drop (suc n) [] h = h
all_drop (suc n) (b ∷ bs) h = all_drop n bs h.1

pub all_take : (n : ℕ) (l : List ℕ) → AllBytes l → AllBytes (take n l)
unfolding AllBytes
all_take zero l h = tt
all_take (suc n) [] h = tt
all_take (suc n) (b ∷ bs) h = (h.0, all_take n bs h.1)

pub number_below : (bs : List ℕ) → AllBytes bs → number bs < 256 ^ length bs
unfolding number AllBytes
number_below [] t = omega arith
number_below (b ∷ bs) t = rw (pow-succ' 256 (length bs)) (digits_lt t.0 (number_below bs t.1))

-- bytes do not see what lies above their width
bytes_above : (w q n : ℕ) → bytes_of w (q * 256 ^ w + n) ≡ bytes_of w n
unfolding bytes_of
bytes_above zero q n = refl
bytes_above (suc w) q n =
    let p : 0 < 256 ^ w = power_positive w in
    let e : q * 256 ^ suc w + n ≡ q * 256 * 256 ^ w + n = rw (pow-succ' 256 w, mul_assoc q 256 (256 ^ w)) refl in
    let d : (q * 256 * 256 ^ w + n) / 256 ^ w ≡ n / 256 ^ w + q * 256 = rw (add_comm (q * 256 * 256 ^ w) n) (add-mul-div_right n (q * 256) p) in
    let m : (n / 256 ^ w + q * 256) % 256 ≡ n / 256 ^ w % 256 = rw (add_comm (n / 256 ^ w) (q * 256)) (mul-add-mod_self_right q 256 (n / 256 ^ w)) in
    rw (e, d, m, bytes_above w (q * 256) n) refl

-- the bytes that make a number are its bytes
pub bytes_number : (bs : List ℕ) → AllBytes bs → bytes_of (length bs) (number bs) ≡ bs
unfolding number bytes_of AllBytes
bytes_number [] t = refl
bytes_number (b ∷ bs) t =
    rw (digits_div b {m = 256 ^ length bs} (number_below bs t.1), mod-eq_of_lt t.0, bytes_above (length bs) b (number bs), bytes_number bs t.1) refl

-- a field that was written reads back
pub read_back : (w n at : ℕ) (l : List ℕ) → at + w ≤ length l → n < 256 ^ w → number_at w (with_number w n at l) at ≡ Some n
unfolding value_at with_number
read_back w n at l h f =
    let v : length (bytes_of w n) ≡ w = bytes_length w n in
    let k : at + length (bytes_of w n) ≤ length l = rw v h in
    let p : length (take at l) ≡ at = length-take-le at l (omega arith) in
    let s : field w at (sets l at (bytes_of w n)) ≡ bytes_of w n =
    rw (sets-eq (bytes_of w n) l at k, append_assoc (take at l) (bytes_of w n) (drop (at + length (bytes_of w n)) l), drop_at (take at l) (bytes_of w n ++ drop (at + length (bytes_of w n)) l) at p)
    (take_at (bytes_of w n) (drop (at + length (bytes_of w n)) l) w v) in
    rw (le-leb (at + w) (length l) h, length-sets l at (bytes_of w n), le-leb (at + w) (length l) h, s, number_back w n f) refl
