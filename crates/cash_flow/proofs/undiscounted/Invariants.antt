-- `cash_flow::undiscounted` meets its contract. The invariant: the table has premium and outgo of the years from
-- `from` to before k.
-- The measure is the number of years left. Assumes nothing.
use mathlib.Core.Path.{◌≡◌}
use Prim.Native.Nat.{◌-◌, ◌≤◌}
use lib.ListN.{length}
use Rattle.cash_flow.specs.CashFlow.{InYears, premium_before, outgo_before, premiums, outgoes}
use Rattle.cash_flow.proofs.undiscounted.Given as goal

abbrev pub invariant-loop-k : goal.invariant-loop-k
invariant-loop-k l =
    (l.from ≤ l.k) × (l.k ≤ l.to) × (length l.years ≡ 50)
    × InYears (premium_before l.book l.setting l.group) 4000000000000000 l.from l.k (premiums l.years)
    × InYears (outgo_before l.book l.setting l.group) 4000000000000000 l.from l.k (outgoes l.years)

abbrev pub decreases-loop-k : goal.decreases-loop-k
decreases-loop-k l = l.to - l.k
