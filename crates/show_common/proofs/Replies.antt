-- A reply lies within the buffer that it was put into, and is as long as the answer says. Assumes nothing.
use Rattle.std.proofs.Common.{List, ◌≡◌, ℕ, ◌≤◌, arith, length, take, length-take-le, sym}
use Rattle.std.specs.Prelude.{Option, Some, None, unwrap_or}
use Rattle.packet.specs.declared.Kind.TheVariants.{Data}
use Rattle.packet.specs.Frame.{Framed}
use Rattle.packet.proofs.Framed.{answer_within}

module _ (contents before after : List ℕ) (r : Option ℕ) (n : ℕ) (p : Framed Data contents before after r) (e : n ≡ unwrap_or r 0) (k : length after ≡ length before) where
  -- where there is none its length is told as 0
  pub within : n ≤ length after
  within = by r p e
    where
      by : (q : Option ℕ) → Framed Data contents before after q → n ≡ unwrap_or q 0 → n ≤ length after
      by None f i = omega (arith, i)
      by (Some m) f i = omega (arith, i, k, answer_within Data contents before after m f)

  pub part_length : n ≡ length (take n after)
  part_length = sym (length-take-le n after within)
