-- `risk_form::CorrelatedFactors::row` meets its contract. The invariant: the sum is that of the terms before j. The
-- measure is the number of terms left. Assumes nothing.
use mathlib.Core.Path.{◌≡◌}
use Prim.Native.Nat.{◌-◌, ◌≤◌}
use Rattle.lists.specs.Sums.{signed_sum_below}
use Rattle.risk_form.specs.Form.{term_of}
use Rattle.risk_form.proofs.CorrelatedFactors.row.Given as goal

abbrev pub invariant-loop-j : goal.invariant-loop-j
invariant-loop-j l =
    (l.j ≤ 4) × (l.sum.number ≡ signed_sum_below (term_of l.self.correlation l.self.factors l.i) l.j)

abbrev pub decreases-loop-j : goal.decreases-loop-j
decreases-loop-j l = 4 - l.j
