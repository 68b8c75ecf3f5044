-- Laws of the columns and projections: what is picked for the year k is the column of the year k, and there are five
-- projections. Assumes nothing.
use mathlib.Core.Path.{◌≡◌, refl}
use mathlib.Core.Bool.{Bool, true, false, ◌&&◌, cond}
use Prim.Native.Nat.{ℕ, ◌<◌, ◌≤◌}
use native.Mathlib.Omega.{arith}
use lib.Dec.{ltb, eqb}
use Rattle.settings.specs.Settings.{weight_in, weight_of}
use Rattle.settings_columns.specs.Columns.{same_mortality, survival_column, persistency_column, columns_at}
use Rattle.settings_columns.specs.Columns.{columns_of}
use Rattle.settings_columns.specs.Columns.{survives_in, persists_in, same_columns, projection_of}
use Rattle.settings.proofs.Weights.{pick_le}

module _ (setting k : ℕ) where
  pub survival_low : survival_column setting k ≤ 2
  unfolding survival_column
  survival_low = pick_le (same_mortality setting k 0) 2 (omega arith)
      (pick_le (same_mortality setting k 1) 2 (omega arith) (omega arith))

  pub persistency_low : persistency_column setting k ≤ 5
  unfolding persistency_column
  persistency_low =
      pick_le (eqb (weight_of setting 2 k) (weight_of 0 2 0)) 5 (omega arith)
      (pick_le (eqb (weight_of setting 2 k) (weight_of 3 2 0)) 5 (omega arith) (omega arith))

  pub survives_is : survives_in (columns_of setting) k ≡ survival_column setting k
  unfolding columns_of survival_column same_mortality weight_of
  survives_is = by (ltb k 5)
    where
      same : Bool → ℕ → Bool
      same t weight = eqb (weight_in t setting 0) weight && eqb (weight_in t setting 1) weight

      of : Bool → ℕ
      of t = cond (same t 10) 0 (cond (same t 12) 1 2)

      by : (t : Bool) → (cond t (columns_at setting 0) (columns_at setting 5)).survival ≡ of t
      by true = refl
      by false = refl

  pub persists_is : persists_in (columns_of setting) k ≡ persistency_column setting k
  unfolding columns_of persistency_column weight_of
  persists_is = by (ltb k 5)
    where
      of : Bool → ℕ
      of t = cond (eqb (weight_in t setting 2) 1000) 3 (cond (eqb (weight_in t setting 2) 1300) 4 5)

      by : (t : Bool) → (cond t (columns_at setting 0) (columns_at setting 5)).persistency ≡ of t
      by true = refl
      by false = refl

pub projection_low : (setting : ℕ) → projection_of setting < 5
unfolding projection_of
projection_low setting = omega (arith, low)
  where
    low : projection_of setting ≤ 4
    low = pick_le (same_columns (columns_of setting) (columns_of 0)) 4 (omega arith)
        (pick_le (same_columns (columns_of setting) (columns_of 1)) 4 (omega arith)
        (pick_le (same_columns (columns_of setting) (columns_of 2)) 4 (omega arith)
        (pick_le (same_columns (columns_of setting) (columns_of 3)) 4 (omega arith) (omega arith))))
