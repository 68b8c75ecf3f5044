-- `cost_rate_divisors::is_paid` meets its contract: a test of each year of the range, and the empty group's. Assumes
-- nothing.
use mathlib.Core.Bool.{Bool}
use mathlib.Core.Path.{◌≡◌}
use Prim.Native.Nat.{ℕ}
use native.Mathlib.Omega.{arith}
use lib.Dec.{ltb}
use Rattle.std.proofs.Common.{rules, tests}
use Rattle.conditions.specs.Every.{every}
use Rattle.conditions.proofs.Checked.{range_checked}
use Rattle.cost_rate_shares.specs.Rates.{figure}
use Rattle.cost_rate_divisors.specs.Divisors.{is_paid}
use Rattle.cost_rate_divisors.proofs.is_paid.Goals as goal

pub returns : goal.returns
unfolding is_paid
returns c =
    let test : ℕ → Bool = λ year. ltb 0 (figure c.args.bounded.accounts.premium year c.args.group) in
    let paid : c.all.result ≡ every test 3 =
    range_checked test 3 c.all.result c.all.ensures.ran (λ year b q k. search (rules, tests)) in
    rw (c.is_empty.ensures, paid) (grind arith)
