-- `practice_book::write_drawn` meets its contract: what was drawn, part after part, is the drawn contents. Assumes
-- nothing.
use Rattle.generator.specs.Draws.{seeded}
use Rattle.practice_contents.proofs.Drawn.{contents_drawn}
use Rattle.practice_book.proofs.PracticeContract.{of_same}
use Rattle.practice_book.proofs.write_drawn.Goals as goal

pub returns : goal.returns
returns c =
    let a = c.args in
    let l = c.fill_lists.ensures in
    of_same
    (contents_drawn (seeded a.start) c.fill_table-costs_drawn.ensures.1 c.fill_table-costs_drawn.ensures.0
    c.fill_curve-curve_drawn.ensures.1 c.fill_curve-curve_drawn.ensures.0 c.fill_table-tables_drawn.ensures.1
    c.fill_table-tables_drawn.ensures.0 l.0 l.1 l.2 l.3)
    c.write.ensures
