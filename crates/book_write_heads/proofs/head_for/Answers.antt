-- `book_write_heads::head_for` meets its contract: none for an empty chain, else the number after those before.
-- Assumes nothing.
use native.Mathlib.Omega.{arith}
use borrow.Author.Tests.{eq-eqb, ne_eqb}
use Rattle.book_contents.specs.Written.{head_for}
use Rattle.book_write_heads.proofs.head_for.Goals as goal

pub returns-then-size-eq0 : goal.returns-then-size-eq0
unfolding head_for
returns-then-size-eq0 c = rw (← c.size.ensures.0, eq-eqb _ _ c.if-size-eq0.true)

pub returns : goal.returns
unfolding head_for
returns c =
    rw (← c.size.ensures.0, ne_eqb _ _ c.if-size-eq0.false) (omega (arith, c.args.chain.counted))
