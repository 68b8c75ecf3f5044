-- `rate_table::one_less` meets its contract: the product fits, and is cut to one. Assumes nothing.
use native.Mathlib.Omega.{arith}
use Rattle.valuation.specs.Portfolio.{one_less}
use Rattle.rate_table.proofs.one_less.Goals as goal

pub returns-then-weighted-lt1000000000 : goal.returns-then-weighted-lt1000000000
unfolding one_less
returns-then-weighted-lt1000000000 c = omega arith

pub returns-else-weighted-lt1000000000 : goal.returns-else-weighted-lt1000000000
unfolding one_less
returns-else-weighted-lt1000000000 c = omega arith
