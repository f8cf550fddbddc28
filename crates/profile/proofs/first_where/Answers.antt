-- `profile::first_where` meets its contract. No area before the one reached passes the test, so the search from there on gives the answer.
-- Assumes nothing.
use mathlib.Core.Path.{sym, ap, ◌∙◌}
use native.Mathlib.Omega.{arith}
use Rattle.profile.specs.Places.{first_from}
use Rattle.profile.proofs.Search.{first_here, first_later, first_end}
use Rattle.profile.proofs.first_where.Goals as goal

pub returns-then-test : goal.returns-then-test
returns-then-test g c =
    let l = c.loop-area in
    let items = c.areas_in_use-area-items in
    record {
      is = λ t k. sym (ap (first_from t 0) (sym items.ensures.are) ∙ l.invariant.left t k
          ∙ first_here t items.result.now l.base l.area-index c.loop-area-test.true (sym (k _ _ c.test.ensures) ∙ c.if-test.true));
      bound = omega arith;
    }

pub overflow_add-base : goal.overflow_add-base
overflow_add-base g c = omega arith

pub loop-area-preserved : goal.loop-area-preserved
loop-area-preserved g c =
    let l = c.loop-area in
    let items = c.areas_in_use-area-items in
    record {
      room = omega arith;
      left = λ t k. l.invariant.left t k
          ∙ first_later t items.result.now l.base l.area-index _ c.loop-area-test.true (sym (k _ _ c.test.ensures) ∙ c.if-test.false) (omega arith);
    }

pub returns : goal.returns
returns g c =
    let l = c.loop-area in
    let items = c.areas_in_use-area-items in
    record {
      is = λ t k. sym (ap (first_from t 0) (sym items.ensures.are) ∙ l.invariant.left t k
          ∙ first_end t items.result.now l.base l.area-index c.loop-area-test.false);
      bound = tt;
    }
