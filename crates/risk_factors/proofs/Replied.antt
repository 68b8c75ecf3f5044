-- What is answered after each of the three tests; and what holds where none refuses. Assumes nothing.
use mathlib.Core.Path.{◌≡◌, refl}
use mathlib.Core.Bool.{Bool, true, false, not}
use mathlib.Core.List.{List}
use Prim.Native.Nat.{◌≤◌}
use native.Mathlib.Omega.{arith}
use lib.IntN.{ℤ, nat_abs}
use Rattle.verdict.specs.Verdicts.{need, first_refusal, refusal_of, ◌and_then◌, refused}
use Rattle.std.specs.Prelude.{Ok}
use Rattle.signed.specs.Signs.{is_negative}
use Rattle.risk_model.specs.declared.RiskModel.{RiskModel}
use Rattle.risk_model.specs.Model.{model_valid}
use Rattle.risk_model.proofs.Rules.{model_correlation, correlation_most}
use Rattle.risk_form.specs.Root.{IntegerSquareRoot}
use Rattle.risk_form.proofs.Bounds.{form_most, root_most}
use Rattle.risk_form.proofs.Squares.{root_whole}
use Rattle.risk_scaling.specs.Factors.{factors_of, factors_small}
use Rattle.risk_scaling.proofs.Sizes.{factors_most}
use Rattle.risk_factors.specs.Form.{form_for, form_over_thousand}
use Rattle.risk_factors.specs.Refusals.{check_factors}
use Rattle.risk_factors.specs.Replies.{deviation_for, deviation_reply_for, factors_reply}

-- no test refuses
pub record Passed (differences : List ℤ) (m : RiskModel) : Type 0 where
  pub model : model_valid m ≡ true
  pub small : factors_small (factors_of differences m.coefficients) ≡ true
  pub form : is_negative (form_for differences m) ≡ false

module _ (differences : List ℤ) (m : RiskModel) where
  pub replied_29 : model_valid m ≡ false → factors_reply differences m ≡ deviation_reply_for (refused 29 0) 0
  unfolding factors_reply check_factors need first_refusal
  replied_29 model = rw model

  pub replied_30 : model_valid m ≡ true → factors_small (factors_of differences m.coefficients) ≡ false
      → factors_reply differences m ≡ deviation_reply_for (refused 30 0) 0
  unfolding factors_reply check_factors need first_refusal
  replied_30 model small = rw (model, small)

  pub replied_31 : model_valid m ≡ true → factors_small (factors_of differences m.coefficients) ≡ true
      → is_negative (form_for differences m) ≡ true → factors_reply differences m ≡ deviation_reply_for (refused 31 0) 0
  unfolding factors_reply check_factors need first_refusal
  replied_31 model small form = rw (model, small, form)

  pub passed_accepted : Passed differences m → check_factors differences m ≡ Ok 0
  unfolding check_factors need first_refusal
  passed_accepted p = rw (p.model, p.small, p.form)

  pub replied_root : Passed differences m
      → factors_reply differences m ≡ deviation_reply_for (Ok 0) (deviation_for differences m)
  unfolding factors_reply
  replied_root p = rw (passed_accepted p)

  -- and so where the refusal is 0
  pub passed : refusal_of (check_factors differences m) ≡ 0 → Passed differences m
  unfolding check_factors need first_refusal
  passed z = by _ _ _ refl refl refl z
    where
      by : (t s n : Bool) → model_valid m ≡ t → factors_small (factors_of differences m.coefficients) ≡ s
          → is_negative (form_for differences m) ≡ n
          → refusal_of (need t 29 0 and_then need s 30 0 and_then need (not n) 31 0) ≡ 0 → Passed differences m
      by true true false et es en z = record { model = et; small = es; form = en }
      by true true true et es en z = absurd (omega (arith, z))
      by true false n et es en z = absurd (omega (arith, z))
      by false s n et es en z = absurd (omega (arith, z))

  pub root_known : IntegerSquareRoot (form_over_thousand (form_for differences m)) (deviation_for differences m)
  unfolding deviation_for
  root_known = root_whole (form_over_thousand (form_for differences m))

  -- four factors of 1,000,000 and correlations of 1,000: a form of 16 x 10^15, and a root of 4,000,000
  pub deviation_most : Passed differences m → deviation_for differences m ≤ 4_000_000
  unfolding form_for
  deviation_most p =
      let most : nat_abs (form_for differences m) ≤ 16_000_000_000_000_000 =
      form_most _ _ (correlation_most _ (model_correlation m p.model)) (factors_most _ p.small) in
      root_most (form_over_thousand (form_for differences m)) (deviation_for differences m) 4_000_000 root_known
      (omega (arith, most))
