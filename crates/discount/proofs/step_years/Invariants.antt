-- `discount::step_years` meets its contract: two years a turn, then the one that is left where their number is odd.
-- The invariant: the years from `from` to before k have gone a year back. The measure is the number of years left.
-- Assumes nothing.
use Prim.Native.Nat.{◌-◌, ◌≤◌}
use Rattle.cash_flow.specs.CashFlow.{premiums, outgoes}
use Rattle.discount.specs.Discount.{divisors, Stepped}
use Rattle.discount.proofs.step_years.Given as goal

abbrev pub invariant-loop-k : goal.invariant-loop-k
invariant-loop-k l =
    (l.from ≤ l.k) × (l.k ≤ l.to)
    × Stepped (divisors l.curve) l.from l.k (premiums l.initial.years) (premiums l.years)
    × Stepped (divisors l.curve) l.from l.k (outgoes l.initial.years) (outgoes l.years)

abbrev pub decreases-loop-k : goal.decreases-loop-k
decreases-loop-k l = l.to - l.k
