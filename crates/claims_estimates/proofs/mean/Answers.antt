-- `claims_estimates::mean` meets its contract: the sum of the five, made a double and divided by 8. Assumes nothing.
use lib.Ieee.{of_bits}
use Rattle.claims_estimates.specs.Estimates.{weighted, mean_of}
use Rattle.claims_estimates.proofs.mean.Goals as goal

pub returns : goal.returns
unfolding of_bits weighted mean_of
returns c = rw c.double.ensures
