-- The weights of costs and claims, in thousandths (paper, section Settings). Assumes nothing.
use Rattle.std.specs.Prelude.{ℕ, ◌≤◌}
use Rattle.settings.specs.Settings.{in_period, weight_of}
use Rattle.settings.specs.declared.ByPeriod.{ByPeriod}
use Rattle.settings_outgo.specs.declared.OutgoWeights.{OutgoWeights}

-- the weights of costs and claims in the year k
abbrev pub outgo_at : ℕ → ℕ → OutgoWeights
outgo_at setting k = record { costs = weight_of setting 3 k; claims = weight_of setting 4 k }

-- the same for the first five years and for the later ones
abbrev pub Outgoings : Type 0
Outgoings = ByPeriod OutgoWeights

unfoldable pub outgoings_of : ℕ → Outgoings
outgoings_of setting = record { first = outgo_at setting 0; later = outgo_at setting 5 }

-- What is read here for a year is the weight of that year: laws `costs_is`, `claims_is` (proofs/Weights).
-- the weight of the costs in the year k
abbrev pub costs_in : Outgoings → ℕ → ℕ
costs_in w k = (in_period w k).costs

-- the weight of the claims in the year k
abbrev pub claims_weight_in : Outgoings → ℕ → ℕ
claims_weight_in w k = (in_period w k).claims

-- no weight of costs is above 1,200 thousandths, none of claims above 1,050
pub record OutgoWeighed (w : Outgoings) : Type 0 where
  pub first_costs : w.first.costs ≤ 1200
  pub first_claims : w.first.claims ≤ 1050
  pub later_costs : w.later.costs ≤ 1200
  pub later_claims : w.later.claims ≤ 1050
