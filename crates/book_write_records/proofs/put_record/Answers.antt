-- `book_write_records::put_record` meets its contract: the first eight bytes and four numbers. Assumes nothing.
use borrow.Author.Rules.{rules}
use Rattle.buffer.proofs.Digits.{◌then◌}
use Rattle.book_contents.specs.Written.{encoded_record}
use Rattle.book_write_records.proofs.put_record.Goals as goal

pub returns : goal.returns
unfolding encoded_record
returns c = (
  c.put_link-count_at.ensures.0 then c.put_four-lapse_at.ensures.0 then c.put_four-premium_at.ensures.0
      then c.put_four-claims_at.ensures.0 then c.put_four.ensures.0,
  search rules,
)
