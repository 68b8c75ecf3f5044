use mathlib.Core.Path.{◌≡◌, refl, ap, ◌∙◌}
use native.Mathlib.Omega.{arith}
use lib.ListN.{length, length-set}
use Rattle.buffer.specs.Text.{joined}
use Rattle.report_lines.proofs.Lengths.{joined_length}
use Rattle.report_text.specs.Report.{heading, report_text, report_length}
use Rattle.report_text.proofs.Figures.{lines_same, one_more}
use Rattle.report_years.proofs.measured_years.Goals as goal

pub new-s-requires : goal.new-s-requires
new-s-requires c = c.requires.0

pub shifts_of-w-requires : goal.shifts_of-w-requires
shifts_of-w-requires c = c.requires.1

pub loop-j-init : goal.loop-j-init
unfolding joined
loop-j-init c = (omega arith, refl, λ i h. absurd (omega arith), refl, omega arith)

pub year_table-table-requires : goal.year_table-table-requires
year_table-table-requires c =
    record {
      lo = omega arith;
      hi = omega (arith, c.loop-j-test.true);
      book =
          c.requires.1;
      weights = c.shifts_of-w.ensures;
    }

pub loop-j-preserved : goal.loop-j-preserved
loop-j-preserved c =
    let l = c.loop-j in
    let own = c.new-s.ensures in
    let years = rw own at c.year_table-table.ensures in
    let lines = c.lines_length.ensures.0 ∙ ap length (lines_same _ _ _ _ years) in (
      omega arith,
      length-set l.years.tables _ _ ∙ l.invariant.1,
      one_more _ _ l.years.tables _ _ (omega (arith, l.invariant.1)) l.invariant.2 years,
      joined_length _ _ heading _ _ l.invariant.3 lines,
      omega arith,
    )

pub returns : goal.returns
unfolding report_length report_text
returns c =
    let l = c.loop-j in
    let all : l.j ≡ 5 = omega arith in
    record { years_are = rw all at l.invariant.2; bytes_are = rw all at l.invariant.3 }
