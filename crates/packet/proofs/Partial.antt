-- Bytes that may wait for their rest: what the test of an answer says, and that they are few. Assumes nothing.
use Rattle.std.proofs.Common.{◌≡◌, ℕ, ◌<◌, true, List, length, refl}
use Rattle.packet.specs.declared.Kind.{Kind}
use Rattle.packet.specs.declared.Progress.{Progress}
use Rattle.packet.specs.declared.Progress.TheVariants.{Astray, Partial, Unfit, Complete, Excess}
use Rattle.packet.specs.Packet.{progress_of, is_partial}
use Rattle.packet.proofs.Laws.{impossible}
use Rattle.packet.proofs.Gathering.{held_few}

pub is_partial_lem : (g : Progress) → is_partial g ≡ true → g ≡ Partial
is_partial_lem Astray e = impossible (cc)
is_partial_lem Partial e = refl
is_partial_lem Unfit e = impossible (cc)
is_partial_lem Complete e = impossible (cc)
is_partial_lem Excess e = impossible (cc)

-- fewer than a longest packet has
pub partial_few : (kind : Kind) (held : List ℕ) → is_partial (progress_of kind held) ≡ true → length held < 1030
partial_few kind held e = held_few kind held (is_partial_lem (progress_of kind held) e)
