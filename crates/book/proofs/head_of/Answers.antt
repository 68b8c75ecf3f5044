-- `book::head_of` meets its contract: the head is the number that `read_u16` reads. Assumes nothing.
use Rattle.book.specs.Layout.{head_of}
use borrow.Author.Rules.{rules}
use Rattle.book.proofs.head_of.Goals as goal

pub returns : goal.returns
unfolding head_of
returns c = search rules
