-- The year tables of the five product groups, as the code carries them from the valuation to the text.
use Rattle.std.specs.Prelude.{List, [], ◌++◌, ◌≡◌, ℕ, ◌+◌, ◌<◌, get_or}
use Rattle.settings_decrements.specs.Decrements.{decrements_of}
use Rattle.valuation.specs.Arithmetic.{rounded}
use Rattle.valuation.specs.Steps.{outgo, counted_premium}
use Rattle.valuation.specs.Portfolio.{group_cells, terms_of}
use Rattle.buffer.specs.Text.{joined}
use Rattle.report_lines.specs.declared.ShownYear.{ShownYear}
use Rattle.report_lines.specs.Sheet.{year_at, table_lines}
use Rattle.report_text.specs.Report.{heading, report_length}
use Rattle.report_text.specs.declared.YearTable.{YearTable}
use Rattle.report_text.specs.declared.Measured.{Measured}

-- the table has the premium after cap and the outgo of each year of product group g
pub record Years (b : List ℕ) (setting g : ℕ) (table : List ShownYear) : Type 0 where
  pub premium_is : (k : ℕ) → k < 50
      → (year_at table k).premium
      ≡ counted_premium rounded (terms_of b setting g) (group_cells b (decrements_of b setting) g) k
  pub outgo_is : (k : ℕ) → k < 50
      → (year_at table k).outgo ≡ outgo rounded (terms_of b setting g) (group_cells b (decrements_of b setting) g) k

-- the table has the amounts of the first n years
pub record Placed (premium outgo : List ℕ) (n : ℕ) (table : List ShownYear) : Type 0 where
  pub premium_column_at : (k : ℕ) → k < n → (year_at table k).premium ≡ get_or premium k 0
  pub outgo_column_at : (k : ℕ) → k < n → (year_at table k).outgo ≡ get_or outgo k 0

-- for a place past the end
abbrev pub none : YearTable
none = record { years = [] }

-- that of product group j + 1 stands at place j
abbrev pub years_at : List YearTable → ℕ → List ShownYear
years_at tables j = (get_or tables j none).years

-- the first n product groups' tables
abbrev pub FirstYears : List ℕ → ℕ → ℕ → List YearTable → Type 0
FirstYears b setting n tables = (j : ℕ) → j < n → Years b setting (j + 1) (years_at tables j)

-- the five tables, and the length of the report from them
pub record Measures (b : List ℕ) (setting : ℕ) (r : Measured) : Type 0 where
  pub years_are : FirstYears b setting 5 r.tables
  pub bytes_are : r.bytes ≡ report_length b setting

-- the lines of product group j + 1, and the report, from the tables
unfoldable pub lines_at : List YearTable → ℕ → List ℕ
lines_at tables j = table_lines (j + 1) (years_at tables j)

unfoldable pub report_from : List YearTable → List ℕ
report_from tables = heading ++ joined (lines_at tables) 5
