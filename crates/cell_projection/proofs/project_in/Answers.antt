-- `cell_projection::project_in` meets its contract: a stretch of the first years, and from there on alone. Assumes
-- nothing.
use mathlib.Core.Path.{sym, ◌∙◌}
use native.Mathlib.Omega.{arith}
use Rattle.lists.proofs.AtMost.{most_higher}
use Rattle.cell.proofs.Cells.{state_start}
use Rattle.cell_projection.proofs.Ends.{going_start}
use Rattle.cell_projection.proofs.Single.{within_capacity, stopped_early, stopped_at_end, stopped_then}
use Rattle.cell_projection.proofs.project_in.Goals as goal

pub project_stretch-stop-requires : goal.project_stretch-stop-requires
project_stretch-stop-requires c = (
  c.requires.0,
  c.requires.1,
  omega arith,
  omega arith,
  record { state = c.new-cell.ensures ∙ sym (state_start _ _ _ _); going = going_start _ },
  most_higher c.requires.2 (omega arith),
  c.requires.3,
)

pub returns-then-stop-lt-FIRST_YEARS : goal.returns-then-stop-lt-FIRST_YEARS
returns-then-stop-lt-FIRST_YEARS c =
    stopped_early _ _ _ _ _ _ _ _ _ _ c.project_stretch-stop.ensures c.if-stop-lt-FIRST_YEARS.true
    (omega arith)

pub alone-requires : goal.alone-requires
alone-requires c =
    let stop = c.project_stretch-stop.ensures in (
      c.requires.0,
      c.requires.1,
      omega arith,
      stopped_at_end _ _ _ _ _ _ _ _ _ _ stop c.if-stop-lt-FIRST_YEARS.false,
      most_higher (within_capacity _ _ _ _ _ _ _ _ c.requires.0 stop.sums c.requires.2) (omega arith),
      c.requires.3,
    )

pub returns : goal.returns
returns c =
    let stop = c.project_stretch-stop.ensures in
    stopped_then _ _ _ _ _ _ _ _ _ _ stop c.if-stop-lt-FIRST_YEARS.false (omega arith) _ _ c.alone.ensures
