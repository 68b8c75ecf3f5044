-- What is refused of a risk model and of its factors: 29 first, 30 next, 31 last. None names a place.
use Rattle.std.specs.Prelude.{not, List, ℤ}
use Rattle.verdict.specs.Verdicts.{need, ◌and_then◌, Verdict}
use Rattle.signed.specs.Signs.{is_negative}
use Rattle.risk_model.specs.Model.{model_valid}
use Rattle.risk_model.specs.declared.RiskModel.{RiskModel}
use Rattle.risk_scaling.specs.Factors.{factors_of, factors_small}
use Rattle.risk_factors.specs.Form.{form_for}

-- the verdict on four differences and a model: 31 where the form is negative
unfoldable pub check_factors : List ℤ → RiskModel → Verdict
check_factors differences m =
    need (model_valid m) 29 0 and_then
    need (factors_small (factors_of differences m.coefficients)) 30 0 and_then
    need (not (is_negative (form_for differences m))) 31 0
