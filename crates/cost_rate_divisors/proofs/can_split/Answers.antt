-- `cost_rate_divisors::can_split` meets its contract: a test of each year of the range. Assumes nothing.
use mathlib.Core.Bool.{Bool}
use Prim.Native.Nat.{ℕ}
use lib.Dec.{ltb}
use Rattle.std.proofs.Common.{rules, tests}
use Rattle.conditions.proofs.Checked.{range_checked}
use Rattle.cost_rate_shares.specs.Rates.{year_sum}
use Rattle.cost_rate_divisors.specs.Divisors.{can_split}
use Rattle.cost_rate_divisors.proofs.can_split.Goals as goal

pub returns : goal.returns
unfolding can_split
returns c =
    let test : ℕ → Bool = λ year. ltb 0 (year_sum c.args.split.figures year) in
    range_checked test 3 c.all.result c.all.ensures.ran (λ year b q k. search (rules, tests))
