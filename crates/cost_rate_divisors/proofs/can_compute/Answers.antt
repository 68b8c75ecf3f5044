-- `cost_rate_divisors::can_compute` meets its contract: the three tests are those of the definition. Assumes nothing.
use Rattle.std.proofs.Common.{rules}
use Rattle.cost_rate_divisors.specs.Divisors.{can_compute}
use Rattle.cost_rate_divisors.proofs.can_compute.Goals as goal

pub returns : goal.returns
unfolding can_compute
returns c = search rules
