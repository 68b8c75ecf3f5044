-- `claims_variation::within_limit` meets its contract: the tests are those of the definition. Assumes nothing.
use mathlib.Core.Path.{refl}
use Rattle.claims_variation.specs.Refusals.{within_limit}
use Rattle.claims_variation.proofs.within_limit.Goals as goal

pub returns : goal.returns
unfolding within_limit
returns c = refl
