-- `book_read_values::values_of` meets its contract: each part as its reader gives it. Assumes nothing.
use Rattle.book_contents.specs.Reading.{values_of}
use Rattle.book_read_values.proofs.values_of.Goals as goal

pub returns : goal.returns
unfolding values_of
returns c =
    rw (
      c.read_u16-year.ensures.0,
      c.percent_at-women.ensures.0,
      c.percent_at-men.ensures.0,
      c.edition-edition.ensures.0,
      c.firsts_of-first.ensures,
      c.curve_of-curve.ensures,
      c.fields_of-mortality.ensures,
      c.fields_of-cost.ensures,
    )
