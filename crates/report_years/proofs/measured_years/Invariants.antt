-- `report_years::measured_years` meets its contract. The invariant: the tables of the groups passed stand at their
-- places, and the bytes counted are those of the heading and of these groups' lines. The measure is the number of
-- groups left. Assumes nothing.
use mathlib.Core.List.{◌++◌}
use mathlib.Core.Path.{◌≡◌}
use Prim.Native.Nat.{◌≤◌, ◌+◌, ◌*◌, ◌-◌}
use lib.ListN.{length}
use Rattle.buffer.specs.Text.{joined}
use Rattle.report_text.specs.Report.{heading, group_lines}
use Rattle.report_text.specs.Tables.{FirstYears}
use Rattle.report_years.proofs.measured_years.Given as goal

abbrev pub invariant-loop-j : goal.invariant-loop-j
invariant-loop-j l =
    (l.j ≤ 5) × (length l.years.tables ≡ 5) × FirstYears l.book l.setting l.j l.years.tables
    × (l.years.bytes ≡ length (heading ++ joined (group_lines l.book l.setting) l.j))
    × (l.years.bytes ≤ 25 + 4200 * l.j)

abbrev pub decreases-loop-j : goal.decreases-loop-j
decreases-loop-j l = 5 - l.j
