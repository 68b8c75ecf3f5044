-- `chain_rows::read_links` meets its contract. The invariant: every row before r is right, and the record that holds
-- for row r is reached. Assumes nothing.
use Rattle.chain_rows.specs.Chain.{RowsBelow}
use Rattle.chain_rows.proofs.Onward.{Reached}
use Rattle.chain_rows.proofs.read_links.Given as goal

abbrev pub invariant-loop-r : goal.invariant-loop-r
invariant-loop-r l =
    Reached l.book l.chain l.i l.r l.row l.class × RowsBelow l.book l.chain l.i l.rows l.r
