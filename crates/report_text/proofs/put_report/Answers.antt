use mathlib.Core.List.{[]}
use mathlib.Core.Path.{◌≡◌}
use native.Mathlib.Omega.{arith}
use borrow.Author.Rules.{rules}
use lib.ListN.{length}
use Rattle.buffer.specs.Text.{joined}
use Rattle.buffer.proofs.Digits.{◌then◌, nothing, joined_more}
use Rattle.report_text.specs.Tables.{lines_at, report_from}
use Rattle.report_text.proofs.put_report.Goals as goal

pub loop-j-init : goal.loop-j-init
unfolding joined
loop-j-init c = (nothing _ _, search rules)

pub loop-j-preserved : goal.loop-j-preserved
unfolding lines_at
loop-j-preserved c = (joined_more _ _ [] c.loop-j.invariant.0 c.put_lines-at.ensures.0, search rules)

pub returns : goal.returns
unfolding report_from
returns c =
    let five : length c.args.years.tables ≡ 5 = search rules in
    let all : c.loop-j.j ≡ 5 = omega arith in
    c.put_bytes-at.ensures then (rw all at c.loop-j.invariant.0)
