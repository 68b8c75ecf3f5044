-- `cost_rate_divisors::all_paid` meets its contract: a test of each group of the range. Assumes nothing.
use Rattle.std.proofs.Common.{rules, tests}
use Rattle.conditions.proofs.Checked.{range_checked}
use Rattle.cost_rate_divisors.specs.Divisors.{is_paid}
use Rattle.cost_rate_divisors.proofs.all_paid.Goals as goal

pub returns : goal.returns
returns c =
    let test = is_paid c.args.bounded.accounts in
    range_checked test 5 c.all.result c.all.ensures.ran (λ group b q k. search (rules, tests))
