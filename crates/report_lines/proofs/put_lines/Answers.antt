use mathlib.Core.List.{[]}
use mathlib.Core.Path.{◌≡◌}
use native.Mathlib.Omega.{arith}
use borrow.Author.Rules.{rules}
use lib.ListN.{length}
use Rattle.buffer.specs.Text.{joined}
use Rattle.buffer.proofs.Digits.{nothing, joined_more}
use Rattle.report_lines.specs.Sheet.{table_line, table_lines}
use Rattle.report_lines.proofs.put_lines.Goals as goal

pub loop-year-init : goal.loop-year-init
unfolding joined
loop-year-init c = (nothing _ _, search rules)

pub loop-year-preserved : goal.loop-year-preserved
unfolding table_line
loop-year-preserved c =
    let l = c.loop-year in
    let w = joined_more (table_line c.args.group c.args.years) l.year [] l.invariant.0 c.put_line-next.ensures.0 in
    (record { bytes = w.bytes; place = omega (arith, w.place) }, omega arith)

pub returns : goal.returns
unfolding table_lines
returns c =
    let fifty : length c.args.years ≡ 50 = search rules in
    let all : c.loop-year.year ≡ 50 = omega arith in
    (rw all at c.loop-year.invariant.0, search rules)
