use mathlib.Core.List.{[]}
use mathlib.Core.Path.{◌≡◌, refl}
use native.Mathlib.Omega.{arith}
use borrow.Author.Rules.{rules}
use lib.ListN.{length}
use Rattle.buffer.specs.Text.{joined}
use Rattle.report_lines.specs.Sheet.{table_line, table_lines}
use Rattle.report_lines.proofs.Lengths.{joined_length}
use Rattle.report_lines.proofs.lines_length.Goals as goal

pub loop-year-init : goal.loop-year-init
unfolding joined
loop-year-init c = (refl, search rules)

pub loop-year-preserved : goal.loop-year-preserved
unfolding table_line
loop-year-preserved c =
    (joined_length _ _ [] _ _ c.loop-year.invariant.0 c.line_length-bytes.ensures.0, search rules)

pub returns : goal.returns
unfolding table_lines
returns c =
    let fifty : length c.args.years ≡ 50 = search rules in
    let all : c.loop-year.year ≡ 50 = omega arith in
    (rw all at c.loop-year.invariant.0, search rules)
