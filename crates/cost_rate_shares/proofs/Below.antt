-- A figure is at most its year's sum, and so a share at most the whole. Assumes nothing.
use mathlib.Core.List.{List}
use Prim.Native.Nat.{ℕ, ◌*◌, ◌/◌, ◌≤◌, ◌<◌}
use native.Mathlib.Nat.{mul_comm, mul-le-mul_left, div-le_of_le-mul}
use native.Mathlib.Omega.{arith}
use Rattle.lists.proofs.Sums.{sum_within}
use Rattle.cost_rate_shares.specs.Rates.{figure, year_sum}

pub figure_below : (figures : List ℕ) (year group : ℕ) → group < 5 → figure figures year group ≤ year_sum figures year
unfolding year_sum
figure_below figures year group h = omega (arith, sum_within (figure figures year) 5 group h)

pub share_below : (w p s : ℕ) → p ≤ s → w * p / s ≤ w
share_below w p s h = div-le_of_le-mul s (omega (arith, mul-le-mul_left w h, mul_comm w s))
