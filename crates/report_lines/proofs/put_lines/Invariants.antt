-- `report_lines::put_lines` meets its contract. The invariant: the lines of the years passed are written, each of at
-- most 84 bytes. Assumes nothing.
use Prim.Native.Nat.{◌≤◌, ◌+◌, ◌*◌}
use Rattle.buffer.specs.Text.{Wrote, joined}
use Rattle.report_lines.specs.Sheet.{table_line}
use Rattle.report_lines.proofs.put_lines.Given as goal

abbrev pub invariant-loop-year : goal.invariant-loop-year
invariant-loop-year l =
    Wrote l.initial.out l.at (joined (table_line l.group l.fn.years) l.year) l.out l.next
    × (l.next ≤ l.at + 84 * l.year)
