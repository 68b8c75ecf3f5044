-- `cost_rate_shares::BoundedAccounts::is_empty` meets its contract: the three tests are those of the definition.
-- Assumes nothing.
use Rattle.std.proofs.Common.{rules}
use Rattle.cost_rate_shares.specs.Rates.{is_empty}
use Rattle.cost_rate_shares.proofs.BoundedAccounts.is_empty.Goals as goal

pub returns : goal.returns
unfolding is_empty
returns c = search rules
