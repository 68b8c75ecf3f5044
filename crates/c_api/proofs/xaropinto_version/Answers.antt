-- `c_api::xaropinto_version` meets its contract: the number of the version's three parts. Assumes nothing.
use mathlib.Core.Path.{refl}
use Rattle.c_api.proofs.xaropinto_version.Goals as goal

pub returns : goal.returns
returns c = refl
