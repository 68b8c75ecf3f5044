-- `YearDivisor::back` meets its contract: the part of what is doubled, over what is doubled. Assumes nothing.
use native.Mathlib.Omega.{arith}
use Rattle.discount.proofs.Discounting.{halved}
use Rattle.discount.proofs.curve.YearDivisor.back.Goals as goal

pub returns : goal.returns
returns c =
    let a = c.args in
    let e = c.two_parts-back.ensures in
    (rw e.0 (halved a.amounts.premium a.self.divisor), rw e.1 (halved a.amounts.outgo a.self.divisor))

pub two_parts-back-requires : goal.two_parts-back-requires
two_parts-back-requires c =
    let d = c.args.self in
    (omega arith, omega arith, omega (arith, d.low), omega (arith, d.high), d.fraction_is, d.fraction_is)
