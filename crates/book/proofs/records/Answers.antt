-- `book::records` meets its contract: N is the number that `read_u16` reads. Assumes nothing.
use Rattle.book.specs.Layout.{records}
use borrow.Author.Rules.{rules}
use Rattle.book.proofs.records.Goals as goal

pub returns : goal.returns
unfolding records
returns c = search rules
