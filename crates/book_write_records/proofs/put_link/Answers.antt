-- `book_write_records::put_link` meets its contract: six fields, one after the other. Assumes nothing.
use borrow.Author.Rules.{rules}
use Rattle.buffer.proofs.Digits.{◌then◌}
use Rattle.book_write_records.proofs.put_link.Goals as goal

pub returns : goal.returns
returns c = (
  c.put_byte-sex_at.ensures then c.put_byte-class_at.ensures then c.put_byte-spare_at.ensures then
      c.put_byte-next_at.ensures
      then c.put_two-last_at.ensures.0 then c.put_two.ensures.0,
  search rules,
)
