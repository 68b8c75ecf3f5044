-- What a cell makes of a table in all five projections, and how many years it computes in each.
use Rattle.std.specs.Prelude.{List, ◌≡◌, ℕ}
use Rattle.cell.specs.States.{cell_in}
use Rattle.cell_projection.specs.Tables.{table_numbers, added, amount_by}
use Rattle.cell_projection.specs.Ends.{years_in_force}
use Rattle.settings.specs.declared.Five.{Five}

-- from year 0 on to the end of each: what the fifty years add, and the years of each projection
pub record Projected (t : List ℕ) (r n : ℕ) (years : Five ℕ) (u v : List ℕ) : Type 0 where
  pub sums : v ≡ added (amount_by (cell_in t r n)) table_numbers u
  pub base_years : years.base ≡ years_in_force (cell_in t r n 0)
  pub mortality_up_years : years.mortality_up ≡ years_in_force (cell_in t r n 1)
  pub mortality_down_years : years.mortality_down ≡ years_in_force (cell_in t r n 2)
  pub lapse_up_years : years.lapse_up ≡ years_in_force (cell_in t r n 3)
  pub lapse_down_years : years.lapse_down ≡ years_in_force (cell_in t r n 4)
