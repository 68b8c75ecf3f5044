use Prim.Native.Nat.{◌<◌}
use native.Mathlib.Omega.{arith}
use Rattle.lists.proofs.AtMost.{most_higher}
use Rattle.cell_projection.proofs.Single.{within_start, within_capacity, run_ready, run_more}
use Rattle.cell_projection.proofs.project_stretch.Goals as goal

pub loop-k-init : goal.loop-k-init
loop-k-init c = λ r n reached. (omega arith, c.requires.2, reached, within_start _ _ _ _)

-- what the loop keeps holds of its own model point
pub one_year-cell-requires : goal.one_year-cell-requires
one_year-cell-requires c =
    let run = c.loop-k.invariant _ _ c.requires.4 in
    let year : c.loop-k.k < 50 = omega (arith, c.loop-k-test.true, c.requires.3) in (
      run_ready _ _ _ _ _ _ _ _ _ _ run c.requires.0 year,
      c.requires.1,
      year,
      most_higher (within_capacity _ _ _ _ _ _ _ _ c.requires.0 run.3 c.requires.5) (omega arith),
      c.requires.6,
    )

pub loop-k-preserved : goal.loop-k-preserved
loop-k-preserved c = λ r n reached.
    run_more _ _ _ _ _ _ _ _ _ _ (c.loop-k.invariant r n reached) c.requires.1 c.loop-k-test.true c.requires.3
    c.if-cell-gt0.true _ _ c.one_year-cell.ensures.0 c.one_year-cell.ensures.1
