-- `flash_blank::blank_front` meets its contract. The loop's invariant: all bytes passed are FFh, and the others are left. Assumes nothing.
use Rattle.std.proofs.Common.{sym, rules}
use Rattle.flash_blank.proofs.Units.{behind, passed_next}
use Rattle.flash_blank.proofs.blank_front.Goals as goal

pub loop-piece-init : goal.loop-piece-init
loop-piece-init c = record {
  passed = record { whole = search rules; blank = c.requires.2; left = search (rules, behind c.args.from c.args.target.now) };
  size = search rules;
}

pub loop-piece-preserved : goal.loop-piece-preserved
loop-piece-preserved c = record {
  passed = passed_next c.args.target.now c.next.new.self.rest.now c.in-Some.piece.now c.loop-piece.at (rw (← c.in-Some.ensures.steps.1.0) c.loop-piece.invariant.passed) (sym c.if-not-is_blank.ensures);
  size = search rules;
}
