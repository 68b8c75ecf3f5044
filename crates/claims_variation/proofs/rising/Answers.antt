-- `claims_variation::rising` meets its contract: the tests are those of the definition. Assumes nothing.
use mathlib.Core.Path.{refl}
use Rattle.claims_variation.specs.Refusals.{rising}
use Rattle.claims_variation.proofs.rising.Goals as goal

pub returns : goal.returns
unfolding rising
returns c = refl
