-- What is stored of a chain in a table of rows: the rows of its linked records, and the last of them again.
use Rattle.std.specs.Prelude.{List, ◌≡◌, ℕ, ◌-◌, ◌≤◌, ◌<◌, get_or}
use Rattle.book.specs.Layout.{chain_sex}
use Rattle.valuation.specs.Portfolio.{row_at}
use Rattle.rate_table.specs.Rows.{RowOf}

-- the rows before row n, from record i of a chain on
abbrev pub RowsBelow : List ℕ → ℕ → ℕ → List ℕ → ℕ → Type 0
RowsBelow b chain i t n = (r : ℕ) → r < n → RowOf b (chain_sex chain) (row_at b i r) t r

-- the numbers at the places from `from` to before `to` are those a row before
pub record Repeated (before after : List ℕ) (from to : ℕ) : Type 0 where
  pub kept : (j : ℕ) → j < from → get_or after j 0 ≡ get_or before j 0
  pub copied : (j : ℕ) → from ≤ j → j < to → get_or after j 0 ≡ get_or after (j - 16) 0
