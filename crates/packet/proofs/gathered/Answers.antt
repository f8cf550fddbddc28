-- `packet::gathered` meets its contract. Each return follows from the tests on its way; the length bytes are read by `numbers::read_two`, which tells where they are not both there. Assumes nothing.
use Rattle.packet.proofs.Laws.{length_cut, length_there, length_read}
use Rattle.packet.specs.Packet.{progress_of}
use Rattle.std.proofs.Common.{sym, ◌∙◌, eq-eqb, ne_eqb}
use Rattle.packet.proofs.gathered.Goals as goal

pub returns-then-s-eq0 : goal.returns-then-s-eq0
unfolding progress_of
returns-then-s-eq0 c = simp (eq-eqb _ _ c.if-s-eq0.true)

pub returns-then-s-from : goal.returns-then-s-from
unfolding progress_of
returns-then-s-from c = simp (ne_eqb _ _ c.if-s-eq0.false, ← c.from.ensures, ne_eqb _ _ c.if-s-from.true)

pub returns-in-None : goal.returns-in-None
unfolding progress_of
returns-in-None c = simp (ne_eqb _ _ c.if-s-eq0.false, ← c.from.ensures, eq-eqb _ _ c.if-s-from.false, length_cut _ (sym c.read.ensures ∙ c.in-None.is))

pub returns-in-Some : goal.returns-in-Some
unfolding progress_of
returns-in-Some c =
    let e = sym c.read.ensures ∙ c.in-Some.is in
    simp (
      ne_eqb _ _ c.if-s-eq0.false,
      ← c.from.ensures,
      eq-eqb _ _ c.if-s-from.false,
      length_there _ _ e,
      ← length_read _ _ e,
    ) c.measured.ensures
