-- `flash::each_part` meets its contract. The areas passed are done, the others left. A turn hands out the part at which the range and the area meet.
-- Assumes nothing.
use mathlib.Core.Path.{ap, ◌∙◌}
use native.Mathlib.Omega.{arith}
use lib.ListN.{get_or}
use Rattle.profile.specs.Areas.{no_area}
use Rattle.flash.specs.Effects.{changed}
use Rattle.flash.proofs.Along.{part_along, part_none, part_from, part_to}
use Rattle.flash.proofs.Lists.{replaced}
use Rattle.flash.proofs.Walk.{walk_next, walk_end}
use Rattle.flash.proofs.each_part.Goals as goal
use Rattle.flash.proofs.each_part.Goals.{then-part, else-part}

pub loop-area-preserved : goal.loop-area-preserved
unfolding replaced
loop-area-preserved g c =
    let a = c.args in
    let l = c.loop-area in
    let p = c.overlap-part in
    let areas = c.areas_in_use-area-items.result.now in
    let area = get_or areas l.area-index no_area in
    let lo = p.result.start in
    let hi = p.result.end in
    record {
      room = omega arith;
      walked = λ f only does. walk_next f areas a.image.now l.image _ l.base l.area-index _ (l.invariant.walked f only does) c.loop-area-test.true c.size.ensures.0
          (elim c.if-part.branch [
            | then-part w ↦ w.image-is ∙ part_along f area l.base a.first a.behind lo hi l.image only p.ensures _ w.if-part.true
                (does _ _ _
                (part_from f area l.base a.first a.behind lo hi l.image only p.ensures w.if-part.true)
                (part_to f area l.base a.first a.behind lo hi l.image only p.ensures w.if-part.true)
                w.write.ensures)
            | else-part w ↦ w.image-is ∙ part_none f area l.base a.first a.behind lo hi l.image only p.ensures w.if-part.false
          ]);
    }

pub returns : goal.returns
returns g c =
    let l = c.loop-area in
    let areas = c.areas_in_use-area-items in
    λ f only does. walk_end f areas.result.now c.args.image.now l.image l.base l.area-index (l.invariant.walked f only does) c.loop-area-test.false
    ∙ ap (λ q. changed f q c.args.image.now) areas.ensures.are
