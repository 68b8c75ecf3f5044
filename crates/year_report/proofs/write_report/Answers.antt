-- `year_report::write_report` meets its contract: where a refusal applies it is given and nothing is written; else
-- length and text are those of one valuation, whose report is the book's. Assumes nothing.
use mathlib.Core.Path.{sym, ◌∙◌}
use Prim.Native.Nat.{◌≤◌}
use native.Mathlib.Omega.{arith}
use borrow.Author.Tests.{leb-true, leb-false}
use lib.ListN.{length}
use Rattle.buffer.proofs.Digits.{kept, trial, from_start}
use Rattle.verdict.proofs.Verdicts.{need_true, need_fails, handed_on}
use Rattle.text_reply.proofs.Replies.{text_refused, text_short, text_written}
use Rattle.report_text.specs.Report.{report_text, report_length}
use Rattle.report_text.proofs.Refusals.{report_setting, report_valid}
use Rattle.report_text.proofs.Figures.{report_same}
use Rattle.year_report.proofs.write_report.Goals as goal

pub returns-in_err-check_report : goal.returns-in_err-check_report
returns-in_err-check_report c =
    rw (handed_on _ c.from_residual.ensures)
    (text_refused _ _ _ _ (sym c.check_report.ensures ∙ c.in_err-check_report.was))

pub measured_years-years-requires : goal.measured_years-years-requires
measured_years-years-requires c =
    let a = c.args in
    let e = sym c.check_report.ensures ∙ c.in_ok-check_report.was in
    (omega (arith, report_setting a.book.now a.setting _ e), report_valid _ _ _ e)

pub returns-in_err-need : goal.returns-in_err-need
unfolding report_length
returns-in_err-need c =
    let f = need_fails _ _ _ _ (sym c.need.ensures ∙ c.in_err-need.was) in
    let accepted = sym c.check_report.ensures ∙ c.in_ok-check_report.was in
    rw (handed_on _ c.from_residual-in_err-need.ensures, f.1)
    (text_short _ _ _ _ accepted (omega (arith, c.measured_years-years.ensures.bytes_are, leb-false _ _ f.0)))

pub shape_of-out : goal.shape_of-out
shape_of-out c = kept c.put_report.ensures

pub returns : goal.returns
unfolding report_length
returns c =
    let years = c.measured_years-years.ensures in
    let accepted = sym c.check_report.ensures ∙ c.in_ok-check_report.was in
    let text = rw (report_same _ _ _ years.years_are) at c.put_report.ensures in
    let a = c.args in
    let fits : length (report_text a.book.now a.setting) ≤ length a.out.now =
    omega (arith, years.bytes_are, leb-true _ _ (need_true _ _ _ _ (sym c.need.ensures ∙ c.in_ok-need.was))) in
    text_written _ _ _ _ accepted fits (trial text) (from_start text fits)
