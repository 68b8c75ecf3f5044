-- Laws of the weights of costs and claims: what is picked for the year k is the weight of the year k, and its bound.
-- Assumes nothing.
use mathlib.Core.Path.{◌≡◌, refl}
use mathlib.Core.Bool.{Bool, true, false, cond}
use Prim.Native.Nat.{ℕ, ◌≤◌}
use native.Mathlib.Omega.{arith}
use lib.Dec.{ltb}
use Rattle.settings.specs.Settings.{weight_in, weight_of}
use Rattle.settings.proofs.Weights.{cost_weight_most, claims_weight_most}
use Rattle.settings_outgo.specs.Outgoings.{Outgoings, outgo_at, outgoings_of, costs_in, claims_weight_in, OutgoWeighed}

pub costs_is : (setting k : ℕ) → costs_in (outgoings_of setting) k ≡ weight_of setting 3 k
unfolding outgoings_of weight_of
costs_is setting k = by (ltb k 5)
  where
    by : (t : Bool) → (cond t (outgo_at setting 0) (outgo_at setting 5)).costs ≡ weight_in t setting 3
    by true = refl
    by false = refl

pub claims_is : (setting k : ℕ) → claims_weight_in (outgoings_of setting) k ≡ weight_of setting 4 k
unfolding outgoings_of weight_of
claims_is setting k = by (ltb k 5)
  where
    by : (t : Bool) → (cond t (outgo_at setting 0) (outgo_at setting 5)).claims ≡ weight_in t setting 4
    by true = refl
    by false = refl

pub costs_most : (setting k : ℕ) → costs_in (outgoings_of setting) k ≤ 1200
costs_most setting k = omega (arith, costs_is setting k, cost_weight_most setting k)

pub claims_most : (setting k : ℕ) → claims_weight_in (outgoings_of setting) k ≤ 1050
claims_most setting k = omega (arith, claims_is setting k, claims_weight_most setting k)

-- bounds of both periods are bounds of each year
pub weights_most : (w : Outgoings) (k : ℕ) → OutgoWeighed w → (costs_in w k ≤ 1200) × (claims_weight_in w k ≤ 1050)
weights_most w k h = by (ltb k 5)
  where
    by : (t : Bool) → ((cond t w.first w.later).costs ≤ 1200) × ((cond t w.first w.later).claims ≤ 1050)
    by true = (h.first_costs, h.first_claims)
    by false = (h.later_costs, h.later_claims)
