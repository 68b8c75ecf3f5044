-- `report_lines::digits` meets its contract: a number has one digit more than its tenth. The measure is the number.
-- Assumes nothing.
use native.Mathlib.Omega.{arith}
use borrow.Author.Rules.{rules}
use Rattle.buffer.proofs.Digits.{number_most}
use Rattle.report_lines.proofs.Lengths.{length_one, length_more}
use Rattle.report_lines.proofs.+digits.Goals as goal

pub returns-then-n-lt10 : goal.returns-then-n-lt10
returns-then-n-lt10 t c = (length_one _ c.if-n-lt10.true, search rules)

pub returns : goal.returns
returns t c =
    let e = length_more c.args.n _ c.if-n-lt10.false c.digits.ensures.0 in
    (e, omega (arith, e, number_most c.args.n c.ranges.n.fits))
