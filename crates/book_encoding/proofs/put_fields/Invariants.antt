-- `book_encoding::put_fields` meets its contract. The invariant: the numbers passed are written. Assumes nothing.
use mathlib.Core.Path.{◌≡◌}
use Prim.Native.Nat.{◌+◌, ◌*◌}
use Rattle.buffer.specs.Text.{Wrote}
use Rattle.book_contents.specs.Written.{fields}
use Rattle.book_encoding.proofs.put_fields.Given as goal

abbrev pub invariant-loop-x : goal.invariant-loop-x
invariant-loop-x l =
    Wrote l.initial.out l.at (fields l.list l.x-index) l.out l.next × (l.next ≡ l.at + 4 * l.x-index)
