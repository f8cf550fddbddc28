-- `packet_gather::gain` meets its contract. Held bytes tell what is lacking; where there are none, those that come do. Assumes nothing.
use mathlib.Core.Path.{◌∙◌}
use Rattle.packet_gather.proofs.Adding.{gain_first, gain_more}
use Rattle.packet_gather.proofs.gain.Goals as goal

pub returns-then-held-ne0 : goal.returns-then-held-ne0
returns-then-held-ne0 c = let a = c.args in c.lacking.ensures ∙ gain_more a.kind a.held.now a.input.now c.if-held-ne0.true

pub returns : goal.returns
returns c = let a = c.args in c.opening.ensures ∙ gain_first a.kind a.held.now a.input.now c.if-held-ne0.false
