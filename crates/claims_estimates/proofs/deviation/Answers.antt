-- `claims_estimates::deviation` meets its contract, operation by operation. Assumes nothing.
use lib.Ieee.{of_bits}
use Rattle.claims_estimates.specs.Estimates.{deviation_of}
use Rattle.claims_estimates.proofs.deviation.Goals as goal

pub returns : goal.returns
unfolding of_bits deviation_of
returns c = rw (c.double-2.ensures, c.double.ensures)
