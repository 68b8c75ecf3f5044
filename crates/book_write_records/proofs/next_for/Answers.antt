-- `book_write_records::next_for` meets its contract: none at the chain's last, else one higher. Assumes nothing.
use native.Mathlib.Omega.{arith}
use borrow.Author.Tests.{eq-eqb, ne_eqb}
use Rattle.book_contents.specs.Written.{next_for}
use Rattle.book_write_records.proofs.next_for.Goals as goal

pub returns-then-j-size : goal.returns-then-j-size
unfolding next_for
returns-then-j-size c = rw (← c.size.ensures.0, eq-eqb _ _ c.if-j-size.true)

pub returns : goal.returns
unfolding next_for
returns c =
    rw (← c.size.ensures.0, ne_eqb _ _ c.if-j-size.false) (omega (arith, c.args.chain.counted))
