-- `book_read_values::firsts_of` meets its contract: each chain's first class. Assumes nothing.
use borrow.Author.Rules.{rules}
use Rattle.book_contents.specs.Reading.{first_in, firsts_of}
use Rattle.book_read_values.proofs.MadeByIndex.{made_each}
use Rattle.book_read_values.proofs.firsts_of.Goals as goal

pub returns : goal.returns
unfolding firsts_of
returns c =
    made_each _ _ (first_in c.args.book.now) _ 14 (λ i y q few called. search rules) c.from_fn.ensures.items
