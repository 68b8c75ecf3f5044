-- No report of an accepted book is longer than 9,525 bytes. Assumes nothing.
use mathlib.Core.List.{List}
use Prim.Native.Nat.{ℕ, ◌+◌, ◌<◌, ◌≤◌}
use native.Mathlib.Omega.{arith}
use lib.ListN.{length, length-append}
use Rattle.book.specs.Reading.{ValidBook}
use Rattle.buffer.specs.Text.{joined}
use Rattle.buffer.proofs.Digits.{joined_most}
use Rattle.report_lines.proofs.Lengths.{line_most}
use Rattle.report_text.specs.Report.{heading, year_line, group_lines, report_text}
use Rattle.report_text.proofs.Ranges.{premium_digits, outgo_digits}

module _ (b : List ℕ) (v : ValidBook 1 b) (setting : ℕ) where
  year_most : (j k : ℕ) → j < 5 → k < 50 → length (year_line b setting (j + 1) k) ≤ 38
  unfolding year_line
  year_most j k few year =
      line_most (j + 1) k _ _ (omega arith) (omega arith)
      (premium_digits b v setting (j + 1) k (omega arith) (omega arith) year)
      (outgo_digits b v setting (j + 1) k (omega arith) (omega arith) year)

  group_most : (j : ℕ) → j < 5 → length (group_lines b setting j) ≤ 1_900
  unfolding group_lines
  group_most j few = joined_most (year_line b setting (j + 1)) 38 50 (λ k year. year_most j k few year)

  -- 25 bytes of heading, and 250 lines of 38
  pub report_most : length (report_text b setting) ≤ 9_525
  unfolding report_text
  report_most =
      omega (
        arith,
        length-append heading (joined (group_lines b setting) 5),
        joined_most (group_lines b setting) 1_900 5 group_most,
      )
