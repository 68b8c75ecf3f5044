-- What a cell in one projection makes of a table, and how many years it computes (W-203).
use Rattle.std.specs.Prelude.{List, ◌≡◌, ℕ, ◌<◌, ◌≤◌}
use Rattle.cell.specs.declared.Cell.{Cell}
use Rattle.cell.specs.States.{cell_in, state_in}
use Rattle.cell_projection.specs.Tables.{year_count, table_numbers, added, only_years, amount_by}
use Rattle.cell_projection.specs.Ends.{years_in_force, Going}

-- projection s of the cell that starts at row r of the table t with n contracts has come to year m, with something in
-- force in all years before
pub record ReachedIn (t : List ℕ) (r n s m : ℕ) (c : Cell) : Type 0 where
  pub state : c ≡ state_in t r n s m
  pub going : Going (cell_in t r n s) m

-- from there on it has been computed up to year k, the end `to` or the first year with nothing in force: this is then
-- its state, and the table u has become v
pub record StoppedIn (t : List ℕ) (r n s m to k : ℕ) (c : Cell) (u v : List ℕ) : Type 0 where
  pub since : m ≤ k
  pub most : k ≤ to
  pub reached : ReachedIn t r n s k c
  pub sums : v ≡ added (only_years (amount_by (cell_in t r n)) s m k) table_numbers u
  pub ended : k < to → c.inforce ≡ 0

-- from there on it makes this of the table u, up to its own first year with nothing in force: so many years it then has
-- in all
pub record ProjectedIn (t : List ℕ) (r n s m years : ℕ) (u v : List ℕ) : Type 0 where
  pub sums : v ≡ added (only_years (amount_by (cell_in t r n)) s m year_count) table_numbers u
  pub years_are : years ≡ years_in_force (cell_in t r n s)
