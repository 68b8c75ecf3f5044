-- `risk_form::form` meets its contract. The invariant: the sum is that of the rows before i. The measure is the
-- number of rows left. Assumes nothing.
use mathlib.Core.Path.{◌≡◌}
use Prim.Native.Nat.{◌-◌, ◌≤◌}
use Rattle.lists.specs.Sums.{signed_sum_below}
use Rattle.risk_form.proofs.Bounds.{row_of}
use Rattle.risk_form.proofs.form.Given as goal

abbrev pub invariant-loop-i : goal.invariant-loop-i
invariant-loop-i l = (l.i ≤ 4) × (l.sum.number ≡ signed_sum_below (row_of l.correlation l.factors) l.i)

abbrev pub decreases-loop-i : goal.decreases-loop-i
decreases-loop-i l = 4 - l.i
