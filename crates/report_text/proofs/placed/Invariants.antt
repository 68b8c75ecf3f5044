-- `report_text::placed` meets its contract. The invariant: the years passed stand at their places. Assumes nothing.
use mathlib.Core.Path.{◌≡◌}
use lib.ListN.{length}
use Rattle.report_text.specs.Tables.{Placed}
use Rattle.report_text.proofs.placed.Given as goal

abbrev pub invariant-loop-k : goal.invariant-loop-k
invariant-loop-k l = (length l.year-items ≡ 50) × Placed l.premium l.outgo l.k l.year-items
