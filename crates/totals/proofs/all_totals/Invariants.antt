-- `totals::all_totals` meets its contract. The invariant: the totals have the groups before this one. The measure is
-- the number of groups left.
-- Assumes nothing.
use Prim.Native.Nat.{◌-◌, ◌≤◌}
use Rattle.totals_group.specs.Sums.{Sums}
use Rattle.totals.proofs.all_totals.Given as goal

abbrev pub invariant-loop-group : goal.invariant-loop-group
invariant-loop-group l = (1 ≤ l.group) × (l.group ≤ 6) × Sums l.book (l.group - 1) l.totals

abbrev pub decreases-loop-group : goal.decreases-loop-group
decreases-loop-group l = 6 - l.group
