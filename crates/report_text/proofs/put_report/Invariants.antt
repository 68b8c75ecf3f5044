-- `report_text::put_report` meets its contract. The invariant: after the heading the lines of the groups passed are
-- written. Assumes nothing.
use Prim.Native.Nat.{◌≤◌, ◌+◌, ◌*◌}
use Rattle.buffer.specs.Text.{Wrote, joined}
use Rattle.report_text.specs.Tables.{lines_at}
use Rattle.report_text.proofs.put_report.Given as goal

abbrev pub invariant-loop-j : goal.invariant-loop-j
invariant-loop-j l =
    Wrote l.initial.out l.initial.at (joined (lines_at l.fn.years.tables) l.j) l.out l.at
    × (l.at ≤ l.initial.at + 4200 * l.j)
