-- No second outcome of a replay from outside meets the promise. Assumes nothing.
use mathlib.Core.List.{List}
use mathlib.Core.Path.{◌≡◌}
use Prim.Native.Nat.{ℕ}
use Rattle.verdict.proofs.OneAnswer.{one_answer}
use Rattle.interface_replay.specs.Post.{Replayed}

-- the same number, the same image, the same count and the same reason
pub replayed_once : (profile recording before after after' : List ℕ) (r r' read read' ended ended' : ℕ) → Replayed profile recording before after r read ended
    → Replayed profile recording before after' r' read' ended' → (r ≡ r') × (after ≡ after') × (read ≡ read') × (ended ≡ ended')
replayed_once profile recording before after after' r r' read read' ended ended' a b =
    (one_answer a.number b.number, one_answer a.image b.image, one_answer a.count b.count, one_answer a.why b.why)
