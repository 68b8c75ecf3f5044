-- Four factors: the example of docs/WORKED_EXAMPLES.md, differences of a small insurer and the supervisor's
-- coefficients and correlation (FINMA A.1 and A.2). Assumes nothing.
use mathlib.Core.Path.{◌≡◌, refl, sym, ap, ◌∙◌}
use mathlib.Core.List.{List, [], ◌∷◌}
use native.Mathlib.Omega.{arith}
use lib.IntN.{ℤ, pos, negsuc}
use Rattle.lists.specs.Sums.{sum_by}
use Rattle.std.specs.Prelude.{Ok}
use Rattle.conditions.specs.Every.{every}
use Rattle.signed.specs.Signs.{number_at}
use Rattle.risk_model.specs.declared.RiskModel.{RiskModel}
use Rattle.risk_model.specs.Model.{coefficients_right, right_at, correlation_right, model_valid}
use Rattle.risk_form.specs.Form.{form_of}
use Rattle.risk_form.specs.Root.{root_of}
use Rattle.risk_form.proofs.Squares.{root_is}
use Rattle.risk_scaling.specs.Factors.{scaled_of, factors_of, factors_small}
use Rattle.risk_factors.specs.Form.{form_for, form_over_thousand}
use Rattle.risk_factors.specs.Replies.{deviation_for, deviation_reply_for, factors_reply}
use Rattle.risk_factors.proofs.Replied.{Passed, replied_root}

pub worked : RiskModel
worked =
    record {
      coefficients = 150_000 ∷ 80_000 ∷ 100_000 ∷ 60_000 ∷ [];
      correlation =
          pos 1000 ∷ pos 0 ∷ pos 250 ∷ pos 0 ∷
          pos 0 ∷ pos 1000 ∷ pos 500 ∷ pos 0 ∷
          pos 250 ∷ pos 500 ∷ pos 1000 ∷ pos 0 ∷
          pos 0 ∷ pos 0 ∷ pos 0 ∷ pos 1000 ∷ [];
    }

-- -4,214,491,620; -4,155,326,891; 11,355,117,658; 6,859,000,890
pub differences : List ℤ
differences = negsuc 4_214_491_619 ∷ negsuc 4_155_326_890 ∷ pos 11_355_117_658 ∷ pos 6_859_000_890 ∷ []

-- -15,804; -5,540; 28,387; 82,308
pub worked_factors : factors_of differences worked.coefficients
    ≡ negsuc 15_803 ∷ negsuc 5_539 ∷ pos 28_387 ∷ pos 82_308 ∷ []
unfolding worked differences factors_of scaled_of number_at
worked_factors = refl

pub worked_form : form_for differences worked ≡ pos 7_479_308_595_000
unfolding worked differences form_for form_of sum_by factors_of scaled_of number_at
worked_form = refl

passed : Passed differences worked
unfolding worked differences model_valid coefficients_right correlation_right right_at factors_small every form_for
    form_of
    sum_by factors_of scaled_of number_at
passed = record { model = refl; small = refl; form = refl }

pub worked_example : factors_reply differences worked ≡ record { refusal = 0; place = 0; deviation = 86_482 }
unfolding deviation_for
worked_example =
    replied_root differences worked passed
    ∙ ap (deviation_reply_for (Ok 0))
    (ap (λ (form : ℤ). root_of (form_over_thousand form)) worked_form
    ∙ sym (root_is 7_479_308_595 86_482 (record { at_most = omega arith; next_above = omega arith })))
