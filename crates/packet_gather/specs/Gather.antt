-- Bytes that only add to an incomplete packet: how many there can be, and what taking them leaves.
use Rattle.std.specs.Prelude.{true, cond, List, ◌≡◌, ℕ, ◌+◌, ◌-◌, ◌≤◌, min, length, take, ltb, eqb}
use Rattle.std.proofs.Math.Seq.{paste}
use Rattle.packet.specs.declared.Kind.{Kind}
use Rattle.packet.specs.Packet.{length_of, progress_of, is_partial}
use Rattle.packet.specs.Frame.{Roomy}

-- how many bytes can come before the last of the packet that q begins; none where its length has not come
unfoldable pub lack_of : List ℕ → ℕ
lack_of q = cond (ltb (length q) 3) 0 (length_of q + 4 - length q)

-- how many of the bytes bs can come before the last of the packet of a kind that they begin; none where they are under three or begin none
unfoldable pub open_of : Kind → List ℕ → ℕ
open_of kind bs = cond (ltb (length bs) 3) 0 (cond (is_partial (progress_of kind (take 3 bs))) (lack_of (take 3 bs) + 3) 0)

-- how many bytes of bs can come before the packet's last, behind the held bytes q; those that are held or, where none are, bs begin it
unfoldable pub gain_of : Kind → List ℕ → List ℕ → ℕ
gain_of kind q bs = cond (eqb (length q) 0) (open_of kind bs) (lack_of q)

-- the held bytes are an incomplete packet, in a buffer with room for a longest one
pub record Holds (kind : Kind) (count : ℕ) (rc : List ℕ) : Type 0 where
  pub inside : count ≤ length rc
  pub fits : is_partial (progress_of kind (take count rc)) ≡ true
  pub room : Roomy rc

-- what is taken of the bytes bs, n of them, stands behind those that were held
pub record Taken (kind : Kind) (count : ℕ) (bs : List ℕ) (n : ℕ) (rc₀ rc : List ℕ) : Type 0 where
  pub taken : n ≡ min (gain_of kind (take count rc₀) bs) (length bs)
  pub receive : rc ≡ paste rc₀ count bs n
