-- `in_force_run::run` meets its contract. The invariant: the cell is in its state of year k over the rows that were
-- read, and the numbers of the years before k stand first. The measure is the number of years left. Assumes nothing.
use mathlib.Core.Path.{◌≡◌}
use mathlib.Core.List.{◌++◌}
use Prim.Native.Nat.{◌-◌, ◌≤◌}
use lib.ListN.{drop}
use Rattle.book.specs.Layout.{field_of, count_offset}
use Rattle.valuation.specs.Arithmetic.{rounded}
use Rattle.valuation.specs.Steps.{in_force}
use Rattle.cell.specs.States.{cell_in, state_in, Projectable}
use Rattle.lists.specs.Each.{each}
use Rattle.in_force_run.proofs.run.Given as goal

abbrev pub invariant-loop-k : goal.invariant-loop-k
invariant-loop-k l =
    (l.k ≤ 50) × Projectable l.rows 0 (field_of l.book l.i count_offset)
    × (l.cell ≡ state_in l.rows 0 (field_of l.book l.i count_offset) l.setting l.k)
    × (l.out ≡ each (in_force rounded (cell_in l.rows 0 (field_of l.book l.i count_offset) l.setting)) l.k
    ++ drop l.k l.initial.out)

abbrev pub decreases-loop-k : goal.decreases-loop-k
decreases-loop-k l = 50 - l.k
