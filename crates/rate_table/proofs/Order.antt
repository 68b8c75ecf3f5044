-- The rates of a row are ordered as the weights are: a greater weight leaves less. Assumes nothing.
use mathlib.Core.List.{List}
use mathlib.Core.Bool.{Bool, true, false, cond}
use Prim.Native.Nat.{ℕ, ◌*◌, ◌≤◌}
use native.Mathlib.Nat.{mul-le-mul_left}
use native.Mathlib.Omega.{arith}
use lib.Dec.{eqb}
use Rattle.settings.specs.Settings.{weight_of}
use Rattle.settings_decrements.specs.Decrements.{percent_of, mortality_weight, decrements_at, of_sex}
use Rattle.valuation.specs.Portfolio.{one_less}
use Rattle.rate_table.specs.Rows.{rate_of, RowOf, RowOrdered}

less_left : (v w x : ℕ) → w ≤ x → one_less v x ≤ one_less v w
unfolding one_less
less_left v w x h = omega (arith, mul-le-mul_left v h)

module _ (b : List ℕ) (sex i : ℕ) where
  heavier : (s t : ℕ) → weight_of s 0 0 ≤ weight_of t 0 0 → weight_of s 1 0 ≤ weight_of t 1 0
      → of_sex sex (decrements_at b s 0) ≤ of_sex sex (decrements_at b t 0)
  unfolding mortality_weight
  heavier s t men women = by (eqb sex 0)
    where
      by : (man : Bool) → cond man (percent_of b 0 * weight_of s 0 0) (percent_of b 1 * weight_of s 1 0)
          ≤ cond man (percent_of b 0 * weight_of t 0 0) (percent_of b 1 * weight_of t 1 0)
      by true = mul-le-mul_left (percent_of b 0) men
      by false = mul-le-mul_left (percent_of b 1) women

  pub row_ordered : (t : List ℕ) (r : ℕ) → RowOf b sex i t r → RowOrdered t r
  unfolding rate_of weight_of
  row_ordered t r h = record {
    mortality_is_up = rw (h.rates 1 (omega arith), h.rates 0 (omega arith))
        (less_left _ _ _ (heavier 0 1 (omega arith) (omega arith)));
    mortality_is_down =
        rw (h.rates 0 (omega arith), h.rates 2 (omega arith))
        (less_left _ _ _ (heavier 2 0 (omega arith) (omega arith)));
    lapse_up = rw (h.rates 4 (omega arith), h.rates 3 (omega arith)) (less_left _ _ _ (omega arith));
    lapse_down = rw (h.rates 3 (omega arith), h.rates 5 (omega arith)) (less_left _ _ _ (omega arith));
  }
