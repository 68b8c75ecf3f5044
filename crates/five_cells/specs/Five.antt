-- The states of a cell in the five projections side by side: those of settings 0 to 4, which serve the other settings
-- too.
use Rattle.std.specs.Prelude.{List, ℕ, ◌*◌, ◌<◌}
use Rattle.cell.specs.States.{state_in, next_year, Ready}
use Rattle.settings.specs.declared.Five.{Five}
use Rattle.cell.specs.declared.Cell.{Cell}
use Rattle.cell_projection.specs.Tables.{two_more, year_more}

-- the states in one year of a cell
abbrev pub FiveCells : Type 0
FiveCells = Five Cell

-- the states in year k of the cell that starts at row r of the table t with n contracts
unfoldable pub five_in : List ℕ → ℕ → ℕ → ℕ → FiveCells
five_in t r n k = record {
  base = state_in t r n 0 k;
  mortality_up = state_in t r n 1 k;
  mortality_down = state_in t r n 2 k;
  lapse_up = state_in t r n 3 k;
  lapse_down = state_in t r n 4 k;
}

-- its states in year 0: the same in all five
abbrev pub start_of : ℕ → ℕ → FiveCells
start_of r n = record {
  base = record { row = r; inforce = n * 1_000_000_000 };
  mortality_up = record { row = r; inforce = n * 1_000_000_000 };
  mortality_down = record { row = r; inforce = n * 1_000_000_000 };
  lapse_up = record { row = r; inforce = n * 1_000_000_000 };
  lapse_down = record { row = r; inforce = n * 1_000_000_000 };
}

-- states that can go on
pub record FiveReady (t : List ℕ) (c : FiveCells) : Type 0 where
  pub base : Ready t c.base
  pub mortality_is_up : Ready t c.mortality_up
  pub mortality_is_down : Ready t c.mortality_down
  pub lapse_up : Ready t c.lapse_up
  pub lapse_down : Ready t c.lapse_down

-- the states a year after year k
unfoldable pub next_five : List ℕ → ℕ → FiveCells → FiveCells
next_five t k c = record {
  base = next_year t 0 k c.base;
  mortality_up = next_year t 1 k c.mortality_up;
  mortality_down = next_year t 2 k c.mortality_down;
  lapse_up = next_year t 3 k c.lapse_up;
  lapse_down = next_year t 4 k c.lapse_down;
}

-- the same for all five
unfoldable pub ten_more : List ℕ → ℕ → FiveCells → List ℕ → List ℕ
ten_more t k c u =
    year_more t 4 k c.lapse_down
    (year_more t 3 k c.lapse_up
    (year_more t 2 k c.mortality_down (year_more t 1 k c.mortality_up (year_more t 0 k c.base u))))

-- x more at the place of each projection's premium in year 0, and y more at that of its claims
unfoldable pub five_times_more : List ℕ → ℕ → ℕ → List ℕ
five_times_more u x y = two_more (two_more (two_more (two_more (two_more u 0 x y) 2 x y) 4 x y) 6 x y) 8 x y

-- something is in force with more deaths and with more lapses, which leave the least
pub record LeastInForce (c : FiveCells) : Type 0 where
  pub mortality_is_up : 0 < c.mortality_up.inforce
  pub lapse_up : 0 < c.lapse_up.inforce

-- something is in force in all five
pub record AllInForce (c : FiveCells) : Type 0 where
  pub base : 0 < c.base.inforce
  pub mortality_is_up : 0 < c.mortality_up.inforce
  pub mortality_is_down : 0 < c.mortality_down.inforce
  pub lapse_up : 0 < c.lapse_up.inforce
  pub lapse_down : 0 < c.lapse_down.inforce
