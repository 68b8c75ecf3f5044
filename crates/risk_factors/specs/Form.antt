-- The form of the scaled factors of four differences.
use Rattle.std.specs.Prelude.{ℕ, ◌/◌, List, ℤ, nat_abs}
use Rattle.risk_model.specs.declared.RiskModel.{RiskModel}
use Rattle.risk_form.specs.Form.{form_of}
use Rattle.risk_scaling.specs.Factors.{factors_of}

-- the form, with the model's correlation
unfoldable pub form_for : List ℤ → RiskModel → ℤ
form_for differences m = form_of m.correlation (factors_of differences m.coefficients)

-- a form that is not negative divided by 1,000, rounded down: the correlations are in thousandths
abbrev pub form_over_thousand : ℤ → ℕ
form_over_thousand form = nat_abs form / 1000
