-- `year_report::report_length` meets its contract: the verdict's refusal, else the length that the valuation gives;
-- what is promised of it follows. Assumes nothing.
use mathlib.Core.Path.{sym, ap, ◌∙◌}
use Rattle.std.specs.Prelude.{Ok}
use Rattle.verdict.proofs.Verdicts.{handed_on}
use Rattle.report_text.specs.Report.{report_length_reply}
use Rattle.report_text.proofs.Refusals.{report_setting, report_valid}
use Rattle.report_text.proofs.ReportLengthContract.{report_length_contract}
use Rattle.year_report.proofs.report_length.Goals as goal

pub measured_years-requires : goal.measured_years-requires
measured_years-requires c =
    let e = sym c.check_report.ensures ∙ c.in_ok-check_report.was in
    (report_setting _ _ _ e, report_valid _ _ _ e)

pub returns : goal.returns
unfolding report_length_reply
returns c =
    let e = sym c.check_report.ensures ∙ c.in_ok-check_report.was in
    report_length_contract _ _ _ (rw e (ap Ok c.measured_years.ensures.bytes_are))

pub returns-in_err-check_report : goal.returns-in_err-check_report
unfolding report_length_reply
returns-in_err-check_report c =
    let e = sym c.check_report.ensures ∙ c.in_err-check_report.was in
    report_length_contract _ _ _ (handed_on _ c.from_residual.ensures ∙ rw e)
