-- `arith::share` meets its contract: the upper half of a product, divided, or `mul_div` at the divisor 1,000,000,000.
-- Assumes nothing.
use Rattle.std.proofs.Common.{◌/◌, arith}
use Rattle.arith.proofs.Division.{product_le, share_raised}
use Rattle.arith.proofs.share.Goals as goal

pub returns-then-x-lt4300000000000 : goal.returns-then-x-lt4300000000000
returns-then-x-lt4300000000000 c = share_raised _ _ _ c.mul_high.ensures

pub mul_div-requires : goal.mul_div-requires
mul_div-requires c =
    let a = c.args in
    omega (arith, product_le {a = a.x / 1000000000} {b = a.y} 1000000 1300000000 (omega arith) (omega arith))
