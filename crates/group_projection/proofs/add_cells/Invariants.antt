-- `group_projection::add_cells` meets its contract. The invariant: record i is that of the row `row`; what is added and
-- counted so far, with the chain from it on, is what the whole chain adds and counts. The measure is the number of
-- classes above. Assumes nothing.
use mathlib.Core.Path.{◌≡◌}
use Prim.Native.Nat.{◌+◌, ◌-◌, ◌≤◌}
use Rattle.book.specs.Layout.{class_of}
use Rattle.book.specs.Cells.{held_from}
use Rattle.book.specs.Reading.{ChainFrom}
use Rattle.valuation.specs.Portfolio.{row_at}
use Rattle.cell_projection.specs.Tables.{amount_in}
use Rattle.group_projection.proofs.Adding.{Carry}
use Rattle.group_projection.proofs.add_cells.Given as goal

abbrev pub invariant-loop-above : goal.invariant-loop-above
invariant-loop-above l =
    (l.row + l.above ≡ l.initial.above) × (l.initial.above ≡ 120 - class_of l.book l.head) × (l.n ≤ l.row)
    × (l.i ≡ row_at l.book l.head l.row)
    × ChainFrom l.book 120 l.chain l.above l.i
    × Carry (amount_in l.book l.which) l.book l.initial.above l.head l.initial.sums l.above l.i l.sums
    × (l.n + held_from l.book l.i (l.above + 1) ≡ held_from l.book l.head (l.initial.above + 1))

abbrev pub decreases-loop-above : goal.decreases-loop-above
decreases-loop-above l = l.above
