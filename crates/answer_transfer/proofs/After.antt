-- The stage after a packet of a write or of a read, as the test for the end picks it. Assumes nothing.
use mathlib.Core.Path.{◌≡◌}
use Prim.Native.Nat.{ℕ}
use borrow.Author.Tests.{eq-eqb, ne_eqb}
use Rattle.state.specs.declared.Range.{Range}
use Rattle.state.specs.declared.Stage.{Stage}
use Rattle.state.specs.declared.Stage.TheVariants.{Command}
use Rattle.answer_transfer.specs.Transfers.{rest_of, after}

module _ (going : Range → Stage) (range : Range) (n : ℕ) where
  -- n bytes were all that was left
  pub after_all : range.left ≡ n → Command ≡ after going range n
  unfolding after
  after_all e = rw (eq-eqb _ _ e)

  -- there are more
  pub after_some : {rest : Range} → (range.left ≡ n → ⊥) → rest ≡ rest_of range n → going rest ≡ after going range n
  unfolding after
  after_some k e = rw (ne_eqb _ _ k, e)
