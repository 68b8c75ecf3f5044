-- `chain_rows::read_rows` meets its contract: the linked records' rows, and the last one again up to the last year.
-- Assumes nothing.
use Rattle.chain_rows.proofs.Repeats.{rows_repeated}
use Rattle.chain_rows.proofs.read_rows.Goals as goal

pub returns : goal.returns
returns c =
    let x = c.args in
    rows_repeated x.book.now x.chain x.i c.requires.3 _ _ c.read_links.ensures
    (rw c.class_of-class.ensures.0 at c.repeat_row.ensures)
