-- `cell_projection::project_stretch` meets its contract. The invariant is `RunIn`; the measure is the number of years
-- left. Assumes nothing.
use Prim.Native.Nat.{ℕ, ◌-◌}
use Rattle.cell_projection.specs.Projected.{ReachedIn}
use Rattle.cell_projection.proofs.Single.{RunIn}
use Rattle.cell_projection.proofs.project_stretch.Given as goal

-- the model point is none of the loop's values: what is kept holds of each from which the loop's first state comes
abbrev pub invariant-loop-k : goal.invariant-loop-k
invariant-loop-k l =
    (r n : ℕ) → ReachedIn l.rows r n l.setting l.initial.k l.initial.cell
    → RunIn l.rows r n l.setting l.initial.k l.to l.k l.cell l.initial.sums l.sums

abbrev pub decreases-loop-k : goal.decreases-loop-k
decreases-loop-k l = l.to - l.k
