-- The first byte and those of the rest so far are written.
use Rattle.std.proofs.Common.{◌∷◌, get_or, take}
use Rattle.std.specs.Fmt.{HasWritten, IsPlainFormatter}
use Rattle.show_common.specs.Hex.{spaced}
use Rattle.show_common.proofs.bytes.HexDisplay.fmt.Given as goal

abbrev pub invariant-loop-byte : goal.invariant-loop-byte
invariant-loop-byte g l =
    IsPlainFormatter l.fn.f → HasWritten g.W.Write.write_str_gives l.fn.f (spaced (get_or l.self.0.now 0 0 ∷ take l.byte-index l.rest)) l.f
