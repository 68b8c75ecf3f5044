-- `book_encoding::put_two` meets its contract: the first two of the number's bytes. Assumes nothing.
use native.Mathlib.Omega.{arith}
use Rattle.le_bytes.specs.Bytes.{two_bytes}
use Rattle.book_encoding.proofs.put_two.Goals as goal

pub returns : goal.returns
unfolding two_bytes
returns c =
    let w = rw c.to_le_bytes-bytes.ensures at c.put_bytes.ensures in
    (w, omega (arith, w.place))
