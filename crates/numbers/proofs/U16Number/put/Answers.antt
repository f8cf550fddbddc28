-- The number's bytes go to the front of the slice. Assumes nothing.
use mathlib.Core.Path.{ap, ◌∙◌}
use native.Mathlib.Omega.{arith}
use Rattle.numbers.specs.Bytes.{bytes_of}
use Rattle.numbers.proofs.Laws.{put_first, two_bytes}
use Rattle.numbers.proofs.U16Number.put.Goals as goal

pub returns : goal.returns
returns c = put_first 2 _ _ _ c.in-Some.ensures.cases.enough (c.to_be_bytes.ensures ∙ two_bytes _ ∙ ap (bytes_of 2) (omega arith))
