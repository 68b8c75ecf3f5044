-- What a cell makes of a table in all five projections side by side, up to where they stop.
use Rattle.std.specs.Prelude.{List, ◌≡◌, ℕ, ◌*◌, ◌<◌, ◌≤◌}
use Rattle.cell.specs.States.{cell_in}
use Rattle.cell_projection.specs.Tables.{a_year, added, late, amount_by}
use Rattle.cell_projection.specs.Ends.{Going}
use Rattle.five_cells.specs.Five.{FiveCells, five_in}
use Rattle.five_side_by_side.specs.declared.Stop.{Stop}

-- all five have come to year m
pub record Reached (t : List ℕ) (r n m : ℕ) (cells : FiveCells) : Type 0 where
  pub states : cells ≡ five_in t r n m
  pub going : (s : ℕ) → s < 5 → Going (cell_in t r n s) m

-- from year m on they make this of the table u, up to where they stop, at year `to` or before it
pub record ProjectedTo (t : List ℕ) (r n m to : ℕ) (s : Stop) (u v : List ℕ) : Type 0 where
  pub sums : v ≡ added (late (a_year * m) (amount_by (cell_in t r n))) (a_year * s.k) u
  pub since : m ≤ s.k
  pub most : s.k ≤ to
  pub reached : Reached t r n s.k s.cells
