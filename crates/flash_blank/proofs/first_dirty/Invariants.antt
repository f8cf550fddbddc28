use Rattle.std.proofs.Common.{◌≡◌, ◌+◌, ◌*◌, ◌<◌, length, min, max, None}
use Rattle.flash_blank.proofs.Units.{Left}
use Rattle.flash_blank.proofs.first_dirty.Given as goal

abbrev pub invariant-loop-byte : goal.invariant-loop-byte
invariant-loop-byte l = record {
  none : l.found ≡ None;
  left : Left l.unit l.target (l.from + l.byte-index);
}

abbrev pub invariant-units : goal.invariant-units
invariant-units l = record {
  none : l.found ≡ None;
  reached : l.front < (l.number + 1) * l.step;
  at : l.start ≡ min (l.number * l.step) (length l.target);
  left : Left l.unit l.target (max l.start l.front);
}
