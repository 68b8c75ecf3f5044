-- `discount_curve::divisor_of` meets its contract: a million more than the rate that was read, in its range. Assumes
-- nothing.
use native.Mathlib.Omega.{arith}
use borrow.Author.Tests.{eq-eqb, ne_eqb}
use Rattle.valuation.specs.Portfolio.{divisor_of}
use Rattle.valuation.proofs.Accepted.{divisor_low, divisor_high}
use Rattle.discount_curve.proofs.divisor_of.Goals as goal

pub returns-then-k-eq0 : goal.returns-then-k-eq0
unfolding divisor_of
returns-then-k-eq0 c = (rw (eq-eqb _ _ c.if-k-eq0.true), omega arith, omega arith)

pub returns : goal.returns
unfolding divisor_of
returns c =
    let e = c.read_u32.ensures.0 in
    let some = ne_eqb _ _ c.if-k-eq0.false in (
      rw (some, e),
      rw e (rw some at (divisor_low c.args.book.now c.requires.1 c.args.k c.requires.0)),
      rw e (rw some at (divisor_high c.args.book.now c.requires.1 c.args.k c.requires.0)),
    )
