-- `book::next_of` meets its contract: the read is at the place that `record_at` gives. Assumes nothing.
use Rattle.book.specs.Layout.{next_of}
use Rattle.book.proofs.next_of.Goals as goal

pub returns : goal.returns
unfolding next_of
returns c =
    (rw (c.read_u16.ensures.0, c.record_at.ensures), c.read_u16.ensures.1)
