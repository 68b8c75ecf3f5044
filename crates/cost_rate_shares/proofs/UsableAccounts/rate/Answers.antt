-- `cost_rate_shares::UsableAccounts::rate` meets its contract: a group that is not empty has premium in every year.
-- Assumes nothing.
use Rattle.std.proofs.Common.{rules}
use Rattle.cost_rate_shares.specs.Rates.{accounts_rate}
use Rattle.cost_rate_shares.proofs.UsableAccounts.rate.Goals as goal

pub returns-then-is_empty : goal.returns-then-is_empty
unfolding accounts_rate
returns-then-is_empty c = search rules

pub returns : goal.returns
unfolding accounts_rate
returns c = search rules
