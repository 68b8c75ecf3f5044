-- `group_projection::group_sums` meets its contract. The invariant: what is added so far, with the chains from k on, is
-- what all chains of the group add; what is counted so far is the n of the chains before k. Assumes nothing.
use mathlib.Core.Path.{◌≡◌}
use Prim.Native.Nat.{◌-◌, ◌*◌, ◌≤◌}
use Rattle.lists.specs.Sums.{sum_from}
use Rattle.book.specs.Cells.{held_in}
use Rattle.cell_projection.specs.Tables.{amount_in}
use Rattle.group_projection.proofs.Adding.{Gather, zeros}
use Rattle.group_projection.proofs.group_sums.Given as goal

abbrev pub invariant-loop-k : goal.invariant-loop-k
invariant-loop-k l =
    (l.from ≤ l.k) × (l.k ≤ l.to) × (l.n ≤ 121 * (l.k - l.from))
    × Gather (amount_in l.book l.which) l.book l.from l.to zeros l.k l.numbers
    × (l.n ≡ sum_from (held_in l.book 120) l.from (l.k - l.from))
