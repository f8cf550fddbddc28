use Rattle.std.proofs.Common.{◌≡◌}
use Rattle.flash_blank.proofs.Units.{Passed}
use Rattle.flash_blank.proofs.blank_front.Given as goal

abbrev pub invariant-loop-piece : goal.invariant-loop-piece
invariant-loop-piece l = record {
  passed : Passed l.target l.piece-iterator.rest.now l.at;
  size : l.piece-iterator.size ≡ l.size;
}
