-- `book::class_of` meets its contract: the read is at the place that `record_at` gives. Assumes nothing.
use Rattle.book.specs.Layout.{class_of}
use Rattle.book.proofs.class_of.Goals as goal

pub returns : goal.returns
unfolding class_of
returns c = (rw (c.read_u8.ensures.0, c.record_at.ensures), c.read_u8.ensures.1)
