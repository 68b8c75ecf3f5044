-- `cell_projection::alone` meets its contract: a stretch up to the last year. Assumes nothing.
use Rattle.cell_projection.proofs.Single.{stopped_in_all}
use Rattle.cell_projection.proofs.alone.Goals as goal

pub returns : goal.returns
returns c = stopped_in_all _ _ _ _ _ _ _ _ _ c.project_stretch.ensures
