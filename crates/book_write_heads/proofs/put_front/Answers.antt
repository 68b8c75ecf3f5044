-- `book_write_heads::put_front` meets its contract: six fields, one after the other. Assumes nothing.
use Rattle.le_bytes.specs.Bytes.{two_bytes}
use Rattle.buffer.proofs.Digits.{◌then◌}
use Rattle.book_write_heads.proofs.put_front.Goals as goal

pub returns : goal.returns
unfolding two_bytes
returns c =
    let whole = c.put_byte-basis_at.ensures then c.put_byte-year_at.ensures then c.put_two-records_at.ensures.0 then
    c.put_two-men_at.ensures.0
    then c.put_byte-women_at.ensures then c.put_byte.ensures in
    (whole, whole.place)
