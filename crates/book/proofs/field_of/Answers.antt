-- `book::field_of` meets its contract: the read is at the place that `record_at` gives. Assumes nothing.
use Rattle.book.specs.Layout.{field_of}
use Rattle.book.proofs.field_of.Goals as goal

pub returns : goal.returns
unfolding field_of
returns c =
    (rw (c.read_u32.ensures.0, c.record_at.ensures), c.read_u32.ensures.1)
