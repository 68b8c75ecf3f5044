-- A number without a sign: all but the last digit, and then that. Assumes nothing.
use mathlib.Core.Path.{refl}
use native.Mathlib.Omega.{arith}
use Rattle.buffer.proofs.Digits.{one_digit, more_digits, number_most}
use Rattle.buffer.proofs.U64Decimal.+put.Goals as goal

pub returns-then-self-lt10 : goal.returns-then-self-lt10
returns-then-self-lt10 t c =
    let w = one_digit c.args.self _ (omega arith) refl c.put_byte.ensures in
    (w, omega (arith, w.place, number_most c.args.self c.ranges.self.fits))

pub returns : goal.returns
returns t c =
    let w = more_digits c.args.self _ (omega arith) refl c.put-next.ensures.0 c.put_byte-2.ensures in
    (w, omega (arith, w.place, number_most c.args.self c.ranges.self.fits))
