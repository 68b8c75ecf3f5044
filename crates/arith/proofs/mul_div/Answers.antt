-- `arith::mul_div` meets its contract: the division fact, and both products fit since the remainder is below d. Assumes
-- nothing.
use Rattle.std.proofs.Common.{◌*◌, ◌%◌, sym, div-le_self, arith}
use Rattle.arith.proofs.Division.{mul_div, rest_le}
use Rattle.arith.proofs.mul_div.Goals as goal

pub overflow_mul-result-2 : goal.overflow_mul-result-2
overflow_mul-result-2 c = omega (arith, rest_le c.args.x c.args.y c.args.d c.requires.0)

pub overflow_add-result : goal.overflow_add-result
overflow_add-result c =
    omega (
      arith,
      rest_le c.args.x c.args.y c.args.d c.requires.0,
      div-le_self
          ((c.args.x % c.args.d) * c.args.y) c.args.d,
    )

pub returns : goal.returns
returns c = sym (mul_div c.args.x c.args.y c.args.d c.requires.0)
