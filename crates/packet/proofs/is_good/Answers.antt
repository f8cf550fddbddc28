-- `packet::is_good` meets its contract. The tests are those of the definition, in its order. Assumes nothing.
use Rattle.packet.specs.Packet.{good}
use Rattle.std.proofs.Common.{sym, ◌∙◌}
use Rattle.packet.proofs.is_good.Goals as goal

pub returns-then-is_complete : goal.returns-then-is_complete
unfolding good
returns-then-is_complete c = simp (← c.gathered.ensures, sym c.is_complete.ensures ∙ c.if-is_complete.true) c.ends_well.ensures

pub returns-then-is_complete-2 : goal.returns-then-is_complete-2
unfolding good
returns-then-is_complete-2 c =
    simp (
      ← c.gathered.ensures,
      ← c.gathered-2.ensures,
      sym
          c.is_complete.ensures ∙ c.if-is_complete.false,
      sym
          c.is_complete-2.ensures ∙ c.if-is_complete-2.true,
    ) c.ends_well-then-is_complete-2.ensures

pub returns : goal.returns
unfolding good
returns c = simp (← c.gathered.ensures, ← c.gathered-2.ensures, sym c.is_complete.ensures ∙ c.if-is_complete.false, sym c.is_complete-2.ensures ∙ c.if-is_complete-2.false)
