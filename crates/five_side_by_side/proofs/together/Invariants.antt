-- `five_side_by_side::together` meets its contract. The invariant is `Run`; the measure is the number of years left.
-- Assumes nothing.
use Prim.Native.Nat.{ℕ, ◌-◌, ◌≤◌}
use Rattle.five_side_by_side.specs.SideBySide.{Reached}
use Rattle.five_side_by_side.proofs.Runs.{Run}
use Rattle.five_side_by_side.proofs.together.Given as goal

-- the model point is none of the loop's values: what is kept holds of each from which the loop's first states come
abbrev pub invariant-loop-k : goal.invariant-loop-k
invariant-loop-k l =
    (l.k ≤ l.to)
    × ((r n : ℕ) → Reached l.rows r n l.from l.initial.cells
    → Run l.rows r n l.from l.k l.cells l.initial.sums l.sums)

abbrev pub decreases-loop-k : goal.decreases-loop-k
decreases-loop-k l = l.to - l.k
