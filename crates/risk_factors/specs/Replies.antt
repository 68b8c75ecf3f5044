-- What four differences and a risk model give: the whole root of their form, or the refusal.
use Rattle.std.specs.Prelude.{ℕ, List, ℤ, Ok, Err}
use Rattle.verdict.specs.Verdicts.{Verdict}
use Rattle.risk_model.specs.declared.RiskModel.{RiskModel}
use Rattle.risk_form.specs.Root.{root_of}
use Rattle.risk_factors.specs.declared.DeviationReply.{DeviationReply}
use Rattle.risk_factors.specs.Form.{form_for, form_over_thousand}
use Rattle.risk_factors.specs.Refusals.{check_factors}

-- the deviation in thousand francs
unfoldable pub deviation_for : List ℤ → RiskModel → ℕ
deviation_for differences m = root_of (form_over_thousand (form_for differences m))

-- the deviation, or the refusal and 0 in the other field
abbrev pub deviation_reply_for : Verdict → ℕ → DeviationReply
deviation_reply_for (Ok n) deviation = record { refusal = 0; place = 0; deviation = deviation }
deviation_reply_for (Err r) deviation = record { refusal = r.number; place = r.place; deviation = 0 }

-- the reply to four differences and a model
unfoldable pub factors_reply : List ℤ → RiskModel → DeviationReply
factors_reply differences m = deviation_reply_for (check_factors differences m) (deviation_for differences m)
