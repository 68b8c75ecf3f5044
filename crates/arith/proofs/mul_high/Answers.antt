-- `arith::mul_high` meets its contract: the halves' products, with what each carries, and each fits. Assumes nothing.
use Rattle.std.proofs.Common.{arith}
use Rattle.arith.proofs.Division.{high_low, low_low, low_high, high_high, mul_high}
use Rattle.arith.proofs.mul_high.Goals as goal

pub overflow_mul-u : goal.overflow_mul-u
overflow_mul-u c = omega (arith, high_low c.args.a c.args.b (omega arith))

pub overflow_mul-u-2 : goal.overflow_mul-u-2
overflow_mul-u-2 c = omega (arith, low_low c.args.a c.args.b)

pub overflow_add-u : goal.overflow_add-u
overflow_add-u c =
    omega (arith, high_low c.args.a c.args.b (omega arith), low_low c.args.a c.args.b)

pub overflow_mul-v : goal.overflow_mul-v
overflow_mul-v c = omega (arith, low_high c.args.a c.args.b (omega arith))

pub overflow_add-v : goal.overflow_add-v
overflow_add-v c = omega (arith, low_high c.args.a c.args.b (omega arith))

pub overflow_mul-result : goal.overflow_mul-result
overflow_mul-result c =
    omega (arith, high_high c.args.a c.args.b (omega arith) (omega arith))

pub overflow_add-result : goal.overflow_add-result
overflow_add-result c =
    let a = c.args.a in
    let b = c.args.b in
    omega (arith, high_high a b (omega arith) (omega arith), high_low a b (omega arith), low_low a b)

pub overflow_add-result-2 : goal.overflow_add-result-2
overflow_add-result-2 c =
    let a = c.args.a in
    let b = c.args.b in
    omega (
      arith,
      high_high a b (omega arith) (omega arith),
      high_low a b (omega arith),
      low_low a b,
      low_high a b
          (omega arith),
    )

pub returns : goal.returns
returns c = mul_high c.args.a c.args.b
