-- `book::holds` meets its contract: the record has a number, and its count is tested. Assumes nothing.
use native.Mathlib.Omega.{arith}
use borrow.Author.Tests.{eq-eqb, ne_eqb}
use Rattle.book.proofs.Cells.{holds_some}
use Rattle.book.proofs.holds.Goals as goal

pub returns-then-count-eq0 : goal.returns-then-count-eq0
returns-then-count-eq0 c = (
  rw (
    holds_some _ _ c.requires.0,
    ← c.field_of-count.ensures.0,
    eq-eqb _ _
        c.if-count-eq0.true,
  ),
  omega arith,
)

pub returns-else-count-eq0 : goal.returns-else-count-eq0
returns-else-count-eq0 c = (
  rw (
    holds_some _ _ c.requires.0,
    ← c.field_of-count.ensures.0,
    ne_eqb _ _
        c.if-count-eq0.false,
  ),
  omega arith,
)
