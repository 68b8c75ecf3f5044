-- `five_projections::project` meets its contract: all five side by side, and then each alone. Assumes nothing.
use mathlib.Core.Path.{ap}
use native.Mathlib.Omega.{arith}
use Rattle.lists.proofs.AtMost.{most_higher}
use Rattle.settings_columns.specs.Columns.{five_columns}
use Rattle.settings_columns.specs.Columns.{FiveColumns}
use Rattle.cell_projection.proofs.Single.{within_capacity}
use Rattle.five_cells.specs.Five.{five_in}
use Rattle.five_cells.specs.Five.{FiveCells}
use Rattle.five_side_by_side.proofs.Runs.{run_capacity}
use Rattle.five_projections.proofs.AllYears.{all_added}
use Rattle.five_projections.proofs.project.Goals as goal

-- the five have come to where each goes on alone, and the bound of the table after each but the last
pub alone-base-requires : goal.alone-base-requires
unfolding five_in five_columns
alone-base-requires c =
    let p = c.requires in
    let w = c.side_by_side-stop.ensures in
    let together = run_capacity _ _ _ 0 _ _ _ _ (w.since, w.most, w.reached, w.sums) p.0 p.1 in (
      p.0,
      omega arith,
      w.most,
      record { state = ap (λ (x : FiveCells). x.base) w.reached.states; going = w.reached.going 0 (omega arith) },
      most_higher together (omega arith),
      ap (λ (x : FiveColumns). x.base) c.five_columns-columns.ensures,
    )

pub alone-mortality_up-requires : goal.alone-mortality_up-requires
unfolding five_in five_columns
alone-mortality_up-requires c =
    let p = c.requires in
    let w = c.side_by_side-stop.ensures in
    let together = run_capacity _ _ _ 0 _ _ _ _ (w.since, w.most, w.reached, w.sums) p.0 p.1 in
    let first = within_capacity _ _ _ 0 _ 50 _ _ p.0 c.alone-base.ensures.sums together in (
      p.0,
      omega arith,
      w.most,
      record {
        state = ap (λ (x : FiveCells). x.mortality_up) w.reached.states;
        going = w.reached.going 1 (omega arith);
      },
      most_higher first (omega arith),
      ap (λ (x : FiveColumns). x.mortality_up) c.five_columns-columns.ensures,
    )

pub alone-mortality_down-requires : goal.alone-mortality_down-requires
unfolding five_in five_columns
alone-mortality_down-requires c =
    let p = c.requires in
    let w = c.side_by_side-stop.ensures in
    let together = run_capacity _ _ _ 0 _ _ _ _ (w.since, w.most, w.reached, w.sums) p.0 p.1 in
    let first = within_capacity _ _ _ 0 _ 50 _ _ p.0 c.alone-base.ensures.sums together in
    let second = within_capacity _ _ _ 1 _ 50 _ _ p.0 c.alone-mortality_up.ensures.sums first in (
      p.0,
      omega arith,
      w.most,
      record {
        state = ap (λ (x : FiveCells). x.mortality_down) w.reached.states;
        going = w.reached.going 2 (omega arith);
      },
      most_higher second (omega arith),
      ap (λ (x : FiveColumns). x.mortality_down) c.five_columns-columns.ensures,
    )

pub alone-lapse_up-requires : goal.alone-lapse_up-requires
unfolding five_in five_columns
alone-lapse_up-requires c =
    let p = c.requires in
    let w = c.side_by_side-stop.ensures in
    let together = run_capacity _ _ _ 0 _ _ _ _ (w.since, w.most, w.reached, w.sums) p.0 p.1 in
    let first = within_capacity _ _ _ 0 _ 50 _ _ p.0 c.alone-base.ensures.sums together in
    let second = within_capacity _ _ _ 1 _ 50 _ _ p.0 c.alone-mortality_up.ensures.sums first in
    let third = within_capacity _ _ _ 2 _ 50 _ _ p.0 c.alone-mortality_down.ensures.sums second in (
      p.0,
      omega arith,
      w.most,
      record { state = ap (λ (x : FiveCells). x.lapse_up) w.reached.states; going = w.reached.going 3 (omega arith) },
      most_higher third (omega arith),
      ap (λ (x : FiveColumns). x.lapse_up) c.five_columns-columns.ensures,
    )

pub alone-lapse_down-requires : goal.alone-lapse_down-requires
unfolding five_in five_columns
alone-lapse_down-requires c =
    let p = c.requires in
    let w = c.side_by_side-stop.ensures in
    let together = run_capacity _ _ _ 0 _ _ _ _ (w.since, w.most, w.reached, w.sums) p.0 p.1 in
    let first = within_capacity _ _ _ 0 _ 50 _ _ p.0 c.alone-base.ensures.sums together in
    let second = within_capacity _ _ _ 1 _ 50 _ _ p.0 c.alone-mortality_up.ensures.sums first in
    let third = within_capacity _ _ _ 2 _ 50 _ _ p.0 c.alone-mortality_down.ensures.sums second in
    let fourth = within_capacity _ _ _ 3 _ 50 _ _ p.0 c.alone-lapse_up.ensures.sums third in (
      p.0,
      omega arith,
      w.most,
      record { state = ap (λ (x : FiveCells). x.lapse_down) w.reached.states; going = w.reached.going 4 (omega arith) },
      most_higher fourth (omega arith),
      ap (λ (x : FiveColumns). x.lapse_down) c.five_columns-columns.ensures,
    )

pub returns : goal.returns
returns c =
    let w = c.side_by_side-stop.ensures in
    record {
      sums = all_added _ _ w.most _ _ _ _ _ _ _ w.sums c.alone-base.ensures.sums
          c.alone-mortality_up.ensures.sums c.alone-mortality_down.ensures.sums c.alone-lapse_up.ensures.sums
          c.alone-lapse_down.ensures.sums;
      base_years = c.alone-base.ensures.years_are;
      mortality_up_years = c.alone-mortality_up.ensures.years_are;
      mortality_down_years = c.alone-mortality_down.ensures.years_are;
      lapse_up_years = c.alone-lapse_up.ensures.years_are;
      lapse_down_years = c.alone-lapse_down.ensures.years_are;
    }
