-- `claims_estimates::double` meets its contract: the number is far below 2 ^ 53. Assumes nothing.
use Rattle.claims_estimates.proofs.Whole.{whole_fits}
use Rattle.claims_estimates.proofs.double.Goals as goal

pub int_to_float-result : goal.int_to_float-result
int_to_float-result c = whole_fits c.args.n c.requires
