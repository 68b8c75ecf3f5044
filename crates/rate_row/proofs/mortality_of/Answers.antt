-- `rate_row::mortality_of` meets its contract: the field that was read, in its range. Assumes nothing.
use native.Mathlib.Omega.{arith}
use Rattle.valuation.specs.Portfolio.{mortality_of}
use Rattle.valuation.proofs.Accepted.{mortality_high}
use Rattle.rate_row.proofs.mortality_of.Goals as goal

pub returns : goal.returns
unfolding mortality_of
returns c =
    let e = c.read_u32.ensures.0 in (
      e,
      rw e (mortality_high c.args.book.now c.requires.0 c.args.sex c.args.class (omega arith)
          (omega arith)),
    )
