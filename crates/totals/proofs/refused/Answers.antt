-- `totals::refused` meets its contract: every field is as it is written. Assumes nothing.
use mathlib.Core.Path.{refl}
use Rattle.totals.proofs.refused.Goals as goal

pub returns : goal.returns
returns c = refl
