-- `book_read_lists::fill_list` meets its contract. The invariant: the lists of the chains before k are written. The
-- measure is the number of chains left. Assumes nothing.
use Prim.Native.Nat.{◌-◌, ◌*◌, ◌≤◌}
use Rattle.buffer.specs.Text.{Wrote, joined}
use Rattle.book_contents.specs.Reading.{list_in}
use Rattle.book_read_lists.proofs.fill_list.Given as goal

abbrev pub invariant-loop-k : goal.invariant-loop-k
invariant-loop-k l =
    (l.k ≤ 14) × Wrote l.initial.list 0 (joined (list_in l.book l.offset) l.k) l.list l.next
    × (l.next ≤ 121 * l.k)

abbrev pub decreases-loop-k : goal.decreases-loop-k
decreases-loop-k l = 14 - l.k
