-- `cost_rate_limits::within_limits` meets its contract: the four tests are those of the definition. Assumes nothing.
use Rattle.std.proofs.Common.{rules}
use Rattle.cost_rate_limits.specs.Limits.{within_limits}
use Rattle.cost_rate_limits.proofs.within_limits.Goals as goal

pub returns : goal.returns
unfolding within_limits
returns c = search rules
