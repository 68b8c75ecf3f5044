-- `book_check::check_from` meets its contract. The invariant: what is counted so far, added to what the check from i on
-- says, is what the whole says.
-- The measure is the number of classes above. Assumes nothing.
use mathlib.Core.Path.{◌≡◌}
use Prim.Native.Nat.{◌+◌, ◌≤◌, ◌<◌}
use Rattle.verdict.specs.Verdicts.{plus}
use Rattle.book.specs.Layout.{records}
use Rattle.book.specs.Check.{check_from}
use Rattle.book_check.proofs.check_from.Given as goal

abbrev pub invariant-loop-n : goal.invariant-loop-n
invariant-loop-n l =
    (l.n + l.above ≤ l.left) × (0 < l.i) × (l.i ≤ records l.b)
    × (check_from l.b l.last l.k l.left l.from ≡ plus l.n (check_from l.b l.last l.k l.above l.i))

abbrev pub decreases-loop-n : goal.decreases-loop-n
decreases-loop-n l = l.above
