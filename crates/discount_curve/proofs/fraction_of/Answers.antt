-- `discount_curve::fraction_of` meets its contract: what is whole of the fraction, and what is left rounded down.
-- Assumes nothing.
use Prim.Native.Nat.{◌*◌, ◌/◌, ◌%◌, ◌≤◌, ◌<◌}
use native.Mathlib.Nat.{div-add-mod', div-mul-le_self, lt-div-mul-add, div-le_of_le-mul, div-le_self, mod-lt}
use native.Mathlib.Omega.{arith}
use Rattle.discount_curve.proofs.Divisors.{fraction_down}
use Rattle.discount_curve.proofs.fraction_of.Goals as goal

pub overflow_mul-result : goal.overflow_mul-result
overflow_mul-result c =
    let q : 9223372036854775808 / c.args.d ≤ 9316537500000 = div-le_of_le-mul c.args.d (omega arith) in
    omega arith

pub overflow_mul-result-2 : goal.overflow_mul-result-2
overflow_mul-result-2 c =
    let some : 0 < c.args.d = omega arith in
    omega (arith, mod-lt 9223372036854775808 some)

pub overflow_add-result : goal.overflow_add-result
overflow_add-result c =
    let d = c.args.d in
    let some : 0 < d = omega arith in
    let q : 9223372036854775808 / d ≤ 9316537500000 = div-le_of_le-mul d (omega arith) in
    omega (arith, mod-lt 9223372036854775808 some, div-le_self (1000000 * (9223372036854775808 % d)) d)

pub returns : goal.returns
returns c =
    let d = c.args.d in
    let s = 9223372036854775808 % d in
    fraction_down d (9223372036854775808 / d) s (1000000 * s / d) (div-add-mod' 9223372036854775808 d)
    (div-mul-le_self (1000000 * s) d) (lt-div-mul-add {a = 1000000 * s} (omega arith))
