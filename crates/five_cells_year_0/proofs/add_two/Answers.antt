-- `five_cells_year_0::add_two` meets its contract: two additions, of which neither reaches the other's number. Assumes
-- nothing.
use mathlib.Core.Path.{refl}
use Rattle.cell_projection.proofs.Years.{both}
use Rattle.five_cells_year_0.proofs.add_two.Goals as goal

pub returns : goal.returns
returns c = both _ _ _ _ _ _ _ _ c.add_at.ensures c.add_at-2.ensures refl refl
