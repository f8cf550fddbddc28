use Rattle.std.proofs.Common.{◌≡◌, ◌+◌, ◌%◌, length, take, fold}
use Rattle.packet.proofs.framing.copy_sum.Given as goal

abbrev pub invariant-loop-i : goal.invariant-loop-i
invariant-loop-i l = record {
  same_length : length l.to ≡ length l.from;
  copied : take l.i l.to ≡ take l.i l.from;
  summed : l.total ≡ fold (λ t b. (t + b) % 256) 0 (take l.i l.from);
}
