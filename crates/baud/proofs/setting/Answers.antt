-- `baud::setting` meets its contract. It is the definition, call by call. Assumes nothing.
use Rattle.baud.proofs.Laws.{setting_is}
use Rattle.baud.proofs.setting.Goals as goal

pub returns : goal.returns
returns c =
    setting_is _ _ _ _ _ _
    c.clock-c.ensures.is
    c.divisor.ensures.0
    c.rough.ensures
    c.limit-m.ensures.mddr
