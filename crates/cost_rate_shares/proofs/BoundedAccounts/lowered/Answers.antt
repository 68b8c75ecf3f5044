-- `cost_rate_shares::BoundedAccounts::lowered` meets its contract: 17 passed, so the product fits. Assumes nothing.
use mathlib.Core.Path.{refl}
use native.Mathlib.Omega.{arith}
use Rattle.cost_rate_shares.specs.Rates.{lowered}
use Rattle.cost_rate_shares.proofs.BoundedAccounts.lowered.Goals as goal

pub returns : goal.returns
unfolding lowered
returns c =
    let limit = c.args.self.bounded.expenses.each c.args.year (omega arith) in (refl, omega arith)
