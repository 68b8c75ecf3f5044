-- What the call answers of a book and a risk model, and what is promised of it.
use Rattle.std.specs.Prelude.{ℕ, ◌≤◌, ◌≡◌, false, List}
use Rattle.verdict.specs.Verdicts.{◌and_then◌, Verdict}
use Rattle.book.specs.Check.{check_book}
use Rattle.valuation.specs.Totals.{differences_of}
use Rattle.signed.specs.Signs.{is_negative}
use Rattle.risk_model.specs.declared.RiskModel.{RiskModel}
use Rattle.risk_form.specs.Root.{IntegerSquareRoot}
use Rattle.risk_factors.specs.declared.DeviationReply.{DeviationReply}
use Rattle.risk_factors.specs.Form.{form_over_thousand, form_for}
use Rattle.risk_factors.specs.Refusals.{check_factors}
use Rattle.risk_factors.specs.Replies.{deviation_for, deviation_reply_for}

-- the verdict: the book's own, then that on its four differences and the model
unfoldable pub check_deviation : List ℕ → RiskModel → Verdict
check_deviation b m = check_book 1 b and_then check_factors (differences_of b) m

-- the reply to a book and a model
unfoldable pub deviation_reply : List ℕ → RiskModel → DeviationReply
deviation_reply b m = deviation_reply_for (check_deviation b m) (deviation_for (differences_of b) m)

-- What the call promises: its reply equals its definition; where it is no refusal, the form is not negative, and the
-- deviation is the whole root of the form divided by 1,000, rounded down; no deviation is above 4,000,000.
pub record DeviationContract (b : List ℕ) (m : RiskModel) (reply : DeviationReply) : Type 0 where
  pub reply_is : reply ≡ deviation_reply b m
  pub form : reply.refusal ≡ 0 → is_negative (form_for (differences_of b) m) ≡ false
  pub root : reply.refusal ≡ 0 → IntegerSquareRoot (form_over_thousand (form_for (differences_of b) m)) reply.deviation
  pub most : reply.deviation ≤ 4_000_000
