-- The year sums of a setting are those of the projection that serves it. Assumes nothing.
use mathlib.Core.Path.{◌≡◌}
use mathlib.Core.List.{List}
use Prim.Native.Nat.{ℕ, ◌+◌, ◌*◌, ◌<◌}
use lib.ListN.{get_or}
use Rattle.settings_decrements.specs.Decrements.{decrements_of}
use Rattle.settings_columns.specs.Columns.{projection_of}
use Rattle.settings_outgo.proofs.Serving.{served}
use Rattle.valuation.specs.Arithmetic.{rounded}
use Rattle.valuation.specs.Steps.{premium_sum, claims_sum}
use Rattle.valuation.specs.Portfolio.{group_cells}
use Rattle.group_projection.specs.Added.{TableIn}

module _ (b : List ℕ) (g setting s k : ℕ) (t : List ℕ) (e : TableIn b (projection_of setting) g t) (known : setting < 8)
    (s-is : s ≡ projection_of setting) (h : k < 50) where
  pub premium_served : get_or t (10 * k + 2 * s) 0 ≡ premium_sum rounded (group_cells b (decrements_of b setting) g) k
  premium_served = rw (← served b setting known, s-is) (e.premium_is k h)

  pub claims_served : get_or t (10 * k + 2 * s + 1) 0 ≡ claims_sum rounded (group_cells b (decrements_of b setting) g) k
  claims_served = rw (← served b setting known, s-is) (e.claims_is k h)
