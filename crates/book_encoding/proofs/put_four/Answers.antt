-- `book_encoding::put_four` meets its contract: the first four of the number's bytes. Assumes nothing.
use mathlib.Core.Path.{◌≡◌}
use Prim.Native.Nat.{◌/◌}
use native.Mathlib.Omega.{arith}
use Rattle.le_bytes.specs.Bytes.{two_bytes, four_bytes}
use Rattle.book_encoding.proofs.put_four.Goals as goal

pub returns : goal.returns
unfolding four_bytes two_bytes
returns c =
    let x = c.args.x in
    let third : x / 65536 / 256 ≡ x / 16777216 = omega arith in
    let w = rw c.to_le_bytes-bytes.ensures at c.put_bytes.ensures in
    (rw third w, omega (arith, w.place))
