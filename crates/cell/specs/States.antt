-- The state of a cell from year to year in a setting, as the code carries it over the rows of its chain.
use Rattle.std.specs.Prelude.{List, ℕ, ◌+◌, ◌*◌, ◌/◌, ◌<◌, ◌≤◌, get_or}
use Rattle.arith.specs.Fractions.{IsFraction}
use Rattle.settings_decrements.specs.Decrements.{Decrements}
use Rattle.settings_columns.specs.Columns.{survival_column, persistency_column}
use Rattle.valuation.specs.Arithmetic.{rounded}
use Rattle.valuation.specs.Steps as steps
use Rattle.valuation.specs.Steps.{in_force, cell_premium, cell_claims}
use Rattle.valuation.specs.Portfolio.{cell_of}
use Rattle.rate_table.specs.Rows.{row_count, rate, RowReady, RowOrdered}
use Rattle.cell.specs.declared.Cell.{Cell}

-- the cell that starts at row r of the table t with n contracts, in a setting: in year k it has reached row r + k
unfoldable pub cell_in : List ℕ → ℕ → ℕ → ℕ → steps.Cell
cell_in t r n setting = record {
  count = n;
  survival = λ k. rate t (r + k) (survival_column setting k);
  persistency = λ k. rate t (r + k) (persistency_column setting k);
  premium = λ k. rate t (r + k) 6;
  claims = λ k. rate t (r + k) 7;
}

-- its rows can be followed for fifty years, and its contracts are few enough
pub record Projectable (t : List ℕ) (r n : ℕ) : Type 0 where
  pub rows : (k : ℕ) → k < 50 → RowReady t (r + k)
  pub ordered : (k : ℕ) → k < 50 → RowOrdered t (r + k)
  pub fits : r ≤ 120
  pub few : n ≤ 100_000

-- a state that can go on
pub record Ready (t : List ℕ) (c : Cell) : Type 0 where
  pub row : RowReady t c.row
  pub fits : c.row < row_count
  pub bound : c.inforce ≤ 100_000_000_000_000

-- a place of the rows by which shares can be taken: it has the fraction of the rate eight further, which is at most the
-- whole
pub record ShareAt (t : List ℕ) (at : ℕ) : Type 0 where
  pub fraction_is : IsFraction (get_or t (at + 8) 0) 1_000_000_000 (get_or t at 0)
  pub most : get_or t (at + 8) 0 ≤ 1_000_000_000

-- the share of x that it gives, rounded down
abbrev pub share_of : List ℕ → ℕ → ℕ → ℕ
share_of t at x = x * get_or t (at + 8) 0 / 1_000_000_000

-- the state a year later, by the columns of what lives on and of what stays: what lives on, rounded down, and of that
-- what stays, rounded down
abbrev pub next_by : List ℕ → ℕ → ℕ → Cell → Cell
next_by t survives persists c = record {
  row = c.row + 1;
  inforce = c.inforce * rate t c.row survives / 1_000_000_000 * rate t c.row persists / 1_000_000_000;
}

-- the state a year after year k of a setting
unfoldable pub next_year : List ℕ → ℕ → ℕ → Cell → Cell
next_year t setting k = next_by t (survival_column setting k) (persistency_column setting k)

-- the state in year k of a setting, as the valuation has it
unfoldable pub state_in : List ℕ → ℕ → ℕ → ℕ → ℕ → Cell
state_in t r n setting k = record { row = r + k; inforce = in_force rounded (cell_in t r n setting) k }

-- premium and claims of a state's year
abbrev pub premium_in : List ℕ → Cell → ℕ
premium_in t c = c.inforce * rate t c.row 6 / 1_000_000_000

abbrev pub claims_in : List ℕ → Cell → ℕ
claims_in t c = c.inforce * rate t c.row 7 / 1_000_000_000

-- premium and claims of a cell in year k, by the valuation's steps, and those of the cell of record i
unfoldable pub premium_by : steps.Cell → ℕ → ℕ
premium_by c k = cell_premium rounded k c

unfoldable pub claims_by : steps.Cell → ℕ → ℕ
claims_by c k = cell_claims rounded k c

unfoldable pub premium_at : List ℕ → Decrements → ℕ → ℕ → ℕ
premium_at b w i = premium_by (cell_of b w i)

unfoldable pub claims_at : List ℕ → Decrements → ℕ → ℕ → ℕ
claims_at b w i = claims_by (cell_of b w i)
