-- A number's bytes are those of what its width leaves of it. Assumes nothing.
use mathlib.Core.Path.{◌≡◌, sym, ap, ◌∙◌}
use Prim.Native.Nat.{ℕ, zero, suc, ◌%◌, ◌^◌}
use native.Mathlib.Omega.{arith}
use lib.ListN.{length}
use Rattle.numbers.specs.Bytes.{number, bytes_of, AllBytes}
use Rattle.numbers.proofs.RoundTrip.{bytes_length, number_bytes, bytes_number}

pub all_bytes : (w n : ℕ) → AllBytes (bytes_of w n)
unfolding bytes_of AllBytes
all_bytes zero n = tt
all_bytes (suc w) n = (omega arith, all_bytes w n)

pub wrapped : (w n : ℕ) → bytes_of w (n % 256 ^ w) ≡ bytes_of w n
wrapped w n =
    let e : number (bytes_of w n) ≡ n % 256 ^ w = number_bytes w n in
    let l : length (bytes_of w n) ≡ w = bytes_length w n in
    ap (λ (k : ℕ). bytes_of w k) (sym e)
    ∙ ap (λ (k : ℕ). bytes_of k (number (bytes_of w n))) (sym l)
    ∙ bytes_number (bytes_of w n) (all_bytes w n)
