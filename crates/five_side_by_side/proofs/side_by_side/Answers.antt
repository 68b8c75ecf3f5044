-- `five_side_by_side::side_by_side` meets its contract: year 0, the first five years, and the later ones where all have
-- something in force. Assumes nothing.
use mathlib.Core.Path.{◌≡◌}
use native.Mathlib.Omega.{arith}
use Rattle.lists.proofs.AtMost.{most_higher}
use Rattle.cell_projection.proofs.Years.{late_start}
use Rattle.five_side_by_side.proofs.Runs.{run_capacity, reached_start, first_run, run_then}
use Rattle.five_side_by_side.proofs.side_by_side.Goals as goal

pub returns-then-point-eq0 : goal.returns-then-point-eq0
returns-then-point-eq0 c =
    record {
      sums = late_start _ _ _;
      since = omega arith;
      most = omega arith;
      reached = reached_start _ _ _ _
          c.new-cell.ensures;
    }

pub together-stop-requires : goal.together-stop-requires
together-stop-requires c =
    let p = c.requires in
    let year_0 = c.year_0-next.ensures in
    let run = first_run _ _ _ (omega (arith, c.if-point-eq0.false)) _ _ _ year_0.0 year_0.1 in (
      p.0,
      omega arith,
      omega arith,
      run.2,
      most_higher (run_capacity _ _ _ _ _ _ _ _ run p.0 p.1) (omega arith),
    )

-- the first five years, as far as all have something in force
pub together-stop-requires-then-stop-eq-FIRST_YEARS : goal.together-stop-requires-then-stop-eq-FIRST_YEARS
together-stop-requires-then-stop-eq-FIRST_YEARS c =
    let p = c.requires in
    let year_0 = c.year_0-next.ensures in
    let run = first_run _ _ _ (omega (arith, c.if-point-eq0.false)) _ _ _ year_0.0 year_0.1 in
    let w = run_then _ _ _ 1 5 _ _ _ _ _ run c.together-stop.ensures in
    let five : c.together-stop.result.k ≡ 5 = c.if-stop-eq-FIRST_YEARS.true in (
      p.0,
      omega arith,
      omega arith,
      rw five at w.reached,
      most_higher (run_capacity _ _ _ 0 _ _ _ _ (w.since, omega (arith, w.most), w.reached, w.sums) p.0 p.1)
          (omega arith),
    )

pub returns-then-stop-eq-FIRST_YEARS : goal.returns-then-stop-eq-FIRST_YEARS
returns-then-stop-eq-FIRST_YEARS c =
    let year_0 = c.year_0-next.ensures in
    let run = first_run _ _ _ (omega (arith, c.if-point-eq0.false)) _ _ _ year_0.0 year_0.1 in
    let w = run_then _ _ _ 1 5 _ _ _ _ _ run c.together-stop.ensures in
    let five = c.if-stop-eq-FIRST_YEARS.true in
    run_then _ _ _ 5 50 _ _ _ _ _ (omega arith, omega arith, rw five at w.reached, rw five at w.sums)
    c.together-stop-then-stop-eq-FIRST_YEARS.ensures

pub returns-else-stop-eq-FIRST_YEARS : goal.returns-else-stop-eq-FIRST_YEARS
returns-else-stop-eq-FIRST_YEARS c =
    let year_0 = c.year_0-next.ensures in
    let run = first_run _ _ _ (omega (arith, c.if-point-eq0.false)) _ _ _ year_0.0 year_0.1 in
    let w = run_then _ _ _ 1 5 _ _ _ _ _ run c.together-stop.ensures in
    record { sums = w.sums; since = w.since; most = omega (arith, w.most); reached = w.reached }
