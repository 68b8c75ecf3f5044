-- `risk_factors::of_differences` meets its contract: the tests in their order, then the root of the form. Assumes
-- nothing.
use mathlib.Core.Path.{◌≡◌, sym, ap, ◌∙◌}
use mathlib.Core.Bool.{true}
use Prim.Native.Nat.{ℕ, ◌/◌}
use lib.IntN.{nat_abs}
use Rattle.std.specs.Prelude.{Ok}
use Rattle.signed.specs.Signs.{is_negative}
use Rattle.risk_model.specs.Model.{model_valid}
use Rattle.risk_model.proofs.Rules.{model_coefficients, model_correlation, correlation_most}
use Rattle.risk_form.specs.Form.{form_of}
use Rattle.risk_form.specs.Root.{root_of}
use Rattle.risk_form.proofs.Squares.{root_is}
use Rattle.risk_scaling.specs.Factors.{factors_small}
use Rattle.risk_scaling.proofs.Sizes.{factors_most}
use Rattle.risk_factors.specs.Form.{form_for}
use Rattle.risk_factors.specs.Replies.{deviation_for, deviation_reply_for}
use Rattle.risk_factors.proofs.Replied.{Passed}
use Rattle.risk_factors.proofs.Replied.{replied_29, replied_30, replied_31, replied_root}
use Rattle.risk_factors.proofs.of_differences.Goals as goal
use Rattle.risk_factors.proofs.of_differences.Goals.{After-form-sum, Else-not-factors_small, Else-not-model_valid}

pub returns-then-not-model_valid : goal.returns-then-not-model_valid
returns-then-not-model_valid c =
    c.refused.ensures ∙ sym (replied_29 _ _ (sym c.model_valid.ensures ∙ c.if-not-model_valid.true))

-- each test that is passed
right : (c : Else-not-model_valid) → model_valid c.args.model ≡ true
right c = sym c.model_valid.ensures ∙ c.if-not-model_valid.false

pub factors-f-requires : goal.factors-f-requires
factors-f-requires c = model_coefficients _ (right (goal.at.factors-f-requires c).Else-not-model_valid)

pub returns-then-not-factors_small : goal.returns-then-not-factors_small
returns-then-not-factors_small c =
    let tested = sym c.factors_small.ensures ∙ c.if-not-factors_small.true in
    let small = ap factors_small (sym c.factors-f.ensures) ∙ tested in
    let valid = right (goal.at.returns-then-not-factors_small c).Else-not-model_valid in
    c.refused-then-not-factors_small.ensures ∙ sym (replied_30 _ _ valid small)

small : (c : Else-not-factors_small) → factors_small c.factors-f.result ≡ true
small c = sym c.factors_small.ensures ∙ c.if-not-factors_small.false

pub form-sum-requires : goal.form-sum-requires
form-sum-requires c =
    let p = goal.at.form-sum-requires c in
    let correlation = model_correlation _ (right p.Else-not-model_valid) in
    (correlation_most _ correlation, factors_most _ (small p.Else-not-factors_small))

-- the form that was computed is the definition's
form_is : (c : After-form-sum)
    → c.form-sum.result.number ≡ form_for c.args.differences.now c.args.model
unfolding form_for
form_is c =
    c.form-sum.ensures ∙ ap (form_of c.args.model.correlation) c.factors-f.ensures

pub returns-then-negative : goal.returns-then-negative
returns-then-negative c =
    let p = goal.at.returns-then-negative c in
    let negative = ap is_negative (sym (form_is p.After-form-sum)) ∙ sym c.negative.ensures ∙ c.if-negative.true in
    let low = ap factors_small (sym c.factors-f.ensures) ∙ small p.Else-not-factors_small in
    c.refused-then-negative.ensures ∙ sym (replied_31 _ _ (right p.Else-not-model_valid) low negative)

pub returns : goal.returns
unfolding deviation_for
returns c =
    let p = goal.at.returns c in
    let passed : Passed _ _ =
    record {
      model = right p.Else-not-model_valid;
      small = ap factors_small (sym c.factors-f.ensures) ∙ small p.Else-not-factors_small;
      form = ap is_negative (sym (form_is p.After-form-sum)) ∙ sym c.negative.ensures ∙ c.if-negative.false;
    } in
    let size = c.size.ensures.0 ∙ ap nat_abs (form_is p.After-form-sum) in
    let root = root_is _ _ c.root.ensures ∙ ap (λ (x : ℕ). root_of (x / 1000)) size in
    ap (deviation_reply_for (Ok 0)) root ∙ sym (replied_root _ _ passed)
