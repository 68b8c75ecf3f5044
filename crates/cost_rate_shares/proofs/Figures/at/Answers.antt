-- `cost_rate_shares::Figures::at` meets its contract: none of the figures is above 1,000,000,000. Assumes nothing.
use mathlib.Core.Path.{refl}
use Prim.Native.Nat.{◌+◌, ◌*◌}
use native.Mathlib.Omega.{arith}
use Rattle.cost_rate_shares.specs.Rates.{figure}
use Rattle.cost_rate_shares.proofs.Figures.at.Goals as goal

pub returns : goal.returns
unfolding figure
returns c = (refl, c.args.self.limit.each (5 * c.args.year + c.args.group) (omega arith))
