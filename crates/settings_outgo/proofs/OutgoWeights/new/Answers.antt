-- `settings_outgo::OutgoWeights::new` meets its contract: each weight is the one read, and costs and claims have
-- bounds of their own. Assumes nothing.
use native.Mathlib.Omega.{arith}
use Rattle.settings.proofs.Weights.{cost_weight_most, claims_weight_most}
use Rattle.settings_outgo.proofs.OutgoWeights.new.Goals as goal

pub returns : goal.returns
returns c =
    let a = c.args in (
      simp (c.weight.ensures.0, c.weight-2.ensures.0),
      omega (arith, cost_weight_most a.setting a.k),
      omega (arith, claims_weight_most a.setting a.k),
    )
