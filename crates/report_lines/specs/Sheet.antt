-- The lines of the year report, in bytes: of given figures, and of a product group's years as the code has them.
use Rattle.std.specs.Prelude.{List, ◌++◌, ℕ, get_or}
use Rattle.buffer.specs.Text.{ended, joined}
use Rattle.report_lines.specs.declared.ShownYear.{ShownYear}

-- a line: product group, year, premium, outgo; a comma (44) after the first three, the line's end (10) after the last
unfoldable pub sheet_line : ℕ → ℕ → ℕ → ℕ → List ℕ
sheet_line group year premium outgo = ended group 44 ++ ended year 44 ++ ended premium 44 ++ ended outgo 10

-- premium after cap and outgo of year k; none past the end
abbrev pub year_at : List ShownYear → ℕ → ShownYear
year_at years k = get_or years k (record { premium = 0; outgo = 0 })

-- the line of year k
unfoldable pub table_line : ℕ → List ShownYear → ℕ → List ℕ
table_line group years k = sheet_line group k (year_at years k).premium (year_at years k).outgo

-- the fifty lines, year 0 first
unfoldable pub table_lines : ℕ → List ShownYear → List ℕ
table_lines group years = joined (table_line group years) 50
