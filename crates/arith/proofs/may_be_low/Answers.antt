-- `arith::may_be_low` meets its contract: the lower half is compared. Assumes nothing.
use Rattle.std.proofs.Common.{ltb, ap}
use Rattle.arith.proofs.may_be_low.Goals as goal

pub returns : goal.returns
returns c = ap (ltb _) c.mul_low.ensures
