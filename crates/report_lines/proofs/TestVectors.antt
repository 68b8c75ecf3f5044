-- A worked line: year 0 of one contract of PG2, premium 100,000 and outgo 90,000. Assumes nothing.
use mathlib.Core.List.{[], ◌∷◌}
use mathlib.Core.Path.{◌≡◌, refl}
use Rattle.buffer.specs.Text.{spelled, decimal, ended}
use Rattle.report_lines.specs.Sheet.{sheet_line}

-- `2,0,100000,90000`
pub worked_line : sheet_line 2 0 100_000 90_000 ≡
    50 ∷ 44 ∷ 48 ∷ 44 ∷ 49 ∷ 48 ∷ 48 ∷ 48 ∷ 48 ∷ 48 ∷ 44 ∷ 57 ∷ 48 ∷ 48 ∷ 48 ∷ 48 ∷ 10 ∷ []
unfolding sheet_line ended decimal spelled
worked_line = refl
