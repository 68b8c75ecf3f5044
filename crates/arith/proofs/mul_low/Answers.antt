-- `arith::mul_low` meets its contract: what the halves' products leave below 2^64. Assumes nothing.
use Rattle.std.proofs.Common.{◌∙◌, arith}
use Rattle.arith.proofs.Division.{high_low, low_low, low_high, mul_low}
use Rattle.arith.proofs.mul_low.Goals as goal

pub overflow_mul-cross : goal.overflow_mul-cross
overflow_mul-cross c = omega (arith, low_high c.args.a c.args.b (omega arith))

pub overflow_mul-cross-2 : goal.overflow_mul-cross-2
overflow_mul-cross-2 c = omega (arith, high_low c.args.a c.args.b (omega arith))

pub overflow_mul-al : goal.overflow_mul-al
overflow_mul-al c = omega (arith, low_low c.args.a c.args.b)

pub returns : goal.returns
returns c = c.wrapping_add_u64.ensures.value ∙ mul_low _ _
