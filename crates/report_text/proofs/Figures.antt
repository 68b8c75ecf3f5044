-- The figures that the five year tables carry are the book's, and so is the report from them. Assumes nothing.
use mathlib.Core.Path.{◌≡◌, sym, ap, subst, ◌∙◌}
use mathlib.Core.Logic.{⊎_elim}
use mathlib.Core.List.{List, ◌++◌}
use Prim.Native.Nat.{ℕ, ◌+◌, ◌<◌}
use native.Mathlib.Omega.{arith}
use lib.ListN.{length, get_or, set}
use lib.Seq.{get_or-set_same, get_or-set_other}
use Rattle.buffer.proofs.Digits.{le_or_lt, joined_same}
use Rattle.report_lines.specs.declared.ShownYear.{ShownYear}
use Rattle.report_lines.specs.Sheet.{year_at, table_line, table_lines}
use Rattle.report_text.specs.Report.{heading, year_line, group_lines, report_text}
use Rattle.report_text.specs.Tables.{Placed, Years, none, years_at, FirstYears, lines_at, report_from}
use Rattle.report_text.specs.declared.YearTable.{YearTable}

module _ (b : List ℕ) (setting : ℕ) where
  -- the lines of a table with a product group's years are that group's
  module _ (j : ℕ) (table : List ShownYear) (years : Years b setting (j + 1) table) where
    line_same : (k : ℕ) → k < 50 → table_line (j + 1) table k ≡ year_line b setting (j + 1) k
    unfolding table_line year_line
    line_same k year = rw (years.premium_is k year, years.outgo_is k year)

    pub lines_same : table_lines (j + 1) table ≡ group_lines b setting j
    unfolding table_lines group_lines
    lines_same = joined_same (table_line (j + 1) table) (year_line b setting (j + 1)) 50 line_same

  -- one more table is stored
  pub one_more : (tables : List YearTable) (j : ℕ) (table : YearTable) → j < length tables
      → FirstYears b setting j tables → Years b setting (j + 1) table.years
      → FirstYears b setting (j + 1) (set tables j table)
  one_more tables j table inside before years i h =
      ⊎_elim
      (λ p. let here : i ≡ j = omega arith in rw here (at_place j (get_or-set_same tables j table none inside) years))
      (λ p. at_place i (get_or-set_other tables j i table none (λ e. absurd (omega arith))) (before i p))
      (le_or_lt j i)
    where
      at_place : (k : ℕ) {s t : YearTable} → s ≡ t → Years b setting (k + 1) t.years
          → Years b setting (k + 1) s.years
      at_place k e = subst (λ (t : YearTable). Years b setting (k + 1) t.years) (sym e)

  pub report_same : (tables : List YearTable) → FirstYears b setting 5 tables
      → report_from tables ≡ report_text b setting
  unfolding report_from report_text lines_at
  report_same tables all =
      ap (λ (l : List ℕ). heading ++ l)
      (joined_same (lines_at tables) (group_lines b setting) 5
      (λ j few. lines_same j (years_at tables j) (all j few)))

-- a table with no year yet, and with one year more
pub placed_none : (premium outgo : List ℕ) (table : List ShownYear) → Placed premium outgo 0 table
placed_none premium outgo table =
    record { premium_column_at = λ k h. absurd (omega arith); outgo_column_at = λ k h. absurd (omega arith) }

pub placed_more : (premium outgo : List ℕ) (table : List ShownYear) (k : ℕ) (year : ShownYear)
    → k < length table
    → (year.premium ≡ get_or premium k 0) × (year.outgo ≡ get_or outgo k 0)
    → Placed premium outgo k table
    → Placed premium outgo (k + 1) (set table k year)
placed_more premium outgo table k year inside is p =
    record {
      premium_column_at = λ i h. at (λ y. y.premium) premium is.0 p.premium_column_at i h;
      outgo_column_at = λ i h. at (λ y. y.outgo) outgo is.1 p.outgo_column_at i h;
    }
  where
    at : (part : ShownYear → ℕ) (amounts : List ℕ) → part year ≡ get_or amounts k 0
        → ((i : ℕ) → i < k → part (year_at table i) ≡ get_or amounts i 0)
        → (i : ℕ)
        → i < k + 1
        → part (year_at (set table k year) i) ≡ get_or amounts i 0
    at part amounts own before i h =
        ⊎_elim {C = part (year_at (set table k year) i) ≡ get_or amounts i 0}
        (λ q.
        let here : i ≡ k = omega arith in
        rw here (ap part (get_or-set_same table k year _ inside) ∙ own))
        (λ q. ap part (get_or-set_other table k i year _ (λ e. absurd (omega arith))) ∙ before i q) (le_or_lt k i)
