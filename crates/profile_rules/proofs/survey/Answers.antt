-- `profile_rules::survey` meets its contract. At each turn the first fault of the whole table is that of what is left of it, and the three
-- numbers with the tallies of what is left make the whole tallies. Assumes nothing.
use mathlib.Core.Path.{sym, ap, ◌∙◌}
use native.Mathlib.Omega.{arith}
use Rattle.std.proofs.lemmas.Result.{err_from_is_err_and}
use Rattle.profile.proofs.Table.{tally_next, tally_end}
use Rattle.profile.specs.Areas.{size_of}
use Rattle.profile_rules.specs.Judged.{tallies_of, surveyed_as, survey_of}
use Rattle.profile_rules.specs.Rules.{config, small_config}
use Rattle.profile_rules.proofs.Judging.{counted_all}
use Rattle.profile_rules.proofs.Laws.{table_next, table_stops, table_end}
use Rattle.profile_rules.proofs.survey.Goals as goal

pub returns-in_err-check_area : goal.returns-in_err-check_area
unfolding survey_of
returns-in_err-check_area c =
    let l = c.loop-i in
    let areas = c.areas_in_use-area-items.result.now in
    let e = err_from_is_err_and c.from_residual.result c.from_residual.ensures.1 in
    let broken = sym c.check_area.ensures ∙ c.in_err-check_area.was in
    let stopped = l.invariant.fault ∙ table_stops areas l.i l.free _ c.loop-i-test.true broken in
    rw (e.1, e.2) (sym (ap (λ f. surveyed_as f (tallies_of areas)) stopped) ∙ ap survey_of c.areas_in_use-area-items.ensures.are)

pub loop-i-preserved : goal.loop-i-preserved
loop-i-preserved c =
    let l = c.loop-i in
    let areas = c.areas_in_use-area-items.result.now in
    let in_use = c.loop-i-test.true in
    let fine = sym c.check_area.ensures ∙ c.in_ok-check_area.was in
    let step = tally_next config areas l.i in_use in
    let step_small = tally_next small_config areas l.i in_use in
    let step-size = tally_next size_of areas l.i in_use in
    record {
      fault = l.invariant.fault ∙ table_next areas l.i l.free in_use fine;
      configs-are = omega arith;
      small-are = omega arith;
      total-is = omega arith;
      configs-bound = omega arith;
      small-bound = omega arith;
      total-bound = omega arith;
    }

pub returns : goal.returns
unfolding survey_of
returns c =
    let l = c.loop-i in
    let areas = c.areas_in_use-area-items.result.now in
    let ended = l.invariant.fault ∙ table_end areas l.i l.free c.loop-i-test.false in
    let none_left = tally_end config areas l.i c.loop-i-test.false in
    let none-small = tally_end small_config areas l.i c.loop-i-test.false in
    let no_size = tally_end size_of areas l.i c.loop-i-test.false in
    counted_all areas _ l.configs l.small l.total ended (omega arith) (omega arith) (omega arith) ∙ ap survey_of c.areas_in_use-area-items.ensures.are
