-- `generator::xorshift` meets its contract. Assumes nothing.
use Rattle.std.proofs.Common.{refl}
use Rattle.generator.specs.Draws.{xorshift}
use Rattle.generator.proofs.xorshift.Goals as goal

pub returns : goal.returns
unfolding xorshift
returns c = refl
