-- `report_lines::lines_length` meets its contract. The invariant: the bytes counted are those of the lines of the years
-- passed, each of at most 84. Assumes nothing.
use mathlib.Core.Path.{◌≡◌}
use Prim.Native.Nat.{◌≤◌, ◌*◌}
use lib.ListN.{length}
use Rattle.buffer.specs.Text.{joined}
use Rattle.report_lines.specs.Sheet.{table_line}
use Rattle.report_lines.proofs.lines_length.Given as goal

abbrev pub invariant-loop-year : goal.invariant-loop-year
invariant-loop-year l =
    (l.bytes ≡ length (joined (table_line l.group l.fn.years) l.year)) × (l.bytes ≤ 84 * l.year)
