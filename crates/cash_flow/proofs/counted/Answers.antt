-- `cash_flow::counted` meets its contract: before the sixth year the premium, then the lesser of it and the cap.
-- Assumes nothing.
use native.Mathlib.Omega.{arith}
use borrow.Author.Tests.{le-leb, lt-leb}
use Rattle.valuation.specs.Steps.{capped_if, capped}
use Rattle.cash_flow.proofs.counted.Goals as goal

pub returns-then-k-lt5 : goal.returns-then-k-lt5
unfolding capped capped_if
returns-then-k-lt5 c = (rw (lt-leb 5 c.args.k c.if-k-lt5.true), omega arith)

pub returns-then-premium-cap : goal.returns-then-premium-cap
unfolding capped capped_if
returns-then-premium-cap c = (rw (le-leb _ _ c.if-k-lt5.false) (omega arith), omega arith)

pub returns-else-premium-cap : goal.returns-else-premium-cap
unfolding capped capped_if
returns-else-premium-cap c = (rw (le-leb _ _ c.if-k-lt5.false) (omega arith), omega arith)
