use native.Mathlib.Omega.{arith}
use Prim.Native.Nat.{◌<◌}
use Rattle.lists.proofs.AtMost.{most_higher}
use Rattle.cell_projection.proofs.Years.{late_start}
use Rattle.five_side_by_side.proofs.Runs.{run_ready, run_capacity, run_more}
use Rattle.five_cells.proofs.Least.{all_in_force}
use Rattle.five_side_by_side.proofs.together.Goals as goal

pub loop-k-init : goal.loop-k-init
loop-k-init c =
    (c.requires.1, λ r n reached. (omega arith, omega (arith, c.requires.1, c.requires.2), reached, late_start _ _ _))

-- what the loop keeps holds of its own model point
pub year-cells-requires : goal.year-cells-requires
year-cells-requires c =
    let p = c.requires in
    let run = c.loop-k.invariant.1 _ _ p.3 in
    let year : c.loop-k.k < 50 = omega (arith, c.loop-k-test.true, p.2) in (
      run_ready _ _ _ _ _ _ _ _ run p.0 year,
      year,
      most_higher (run_capacity _ _ _ _ _ _ _ _ run p.0 p.4) (omega arith),
      c.five_columns-columns.ensures,
    )

pub loop-k-preserved : goal.loop-k-preserved
loop-k-preserved c =
    let p = c.requires in
    let year = c.loop-k-test.true in
    let run = c.loop-k.invariant.1 _ _ p.3 in
    let all = all_in_force _ _ _ p.0 _ run.1 _ run.2.states (c.all.ensures c.if-all.true) in (
      omega (arith, year),
      λ r n reached.
          run_more _ r n _ _ _ _ _ (c.loop-k.invariant.1 r n reached) (omega (arith, year, p.2)) all _ _
          c.year-cells.ensures.0 c.year-cells.ensures.1,
    )
