-- `claims_estimates::estimated` meets its contract: each field is that of `estimates_of`. Assumes nothing.
use Rattle.claims_estimates.specs.Estimates.{estimates_of}
use Rattle.claims_estimates.proofs.estimated.Goals as goal

pub returns : goal.returns
unfolding estimates_of
returns c = rw (c.mean-mean.ensures, c.deviation-deviation.ensures)
