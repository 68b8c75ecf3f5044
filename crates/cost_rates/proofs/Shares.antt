-- The shares of one split: together never above the whole, less than one franc a group below it. Assumes nothing.
use mathlib.Core.List.{List}
use Prim.Native.Nat.{ℕ, zero, suc, ◌+◌, ◌*◌, ◌/◌, ◌≤◌, ◌<◌}
use native.Mathlib.Nat.{le_of_mul-le-mul_right, lt_of_mul-lt-mul_right, lt-div-mul-add, div-mul-le_self}
use native.Mathlib.Omega.{arith}
use Rattle.lists.specs.Sums.{sum_by, sum_below}
use Rattle.cost_rate_shares.specs.Rates.{figure, year_sum, lowered, share}
use Rattle.cost_rates.specs.Replies.{shares_of, SplitWhole}

-- a part of the whole w, by what f gives out of the sum s
part : ℕ → ℕ → (ℕ → ℕ) → ℕ → ℕ
part w s f group = w * f group / s

parts_below : (w s : ℕ) (f : ℕ → ℕ) (n : ℕ) → sum_below (part w s f) n * s ≤ sum_below f n * w
unfolding sum_by part
parts_below w s f zero = omega arith
parts_below w s f (suc n) = omega (arith, parts_below w s f n, div-mul-le_self (w * f n) s)

-- each part misses less than one
parts_near : (w s : ℕ) (f : ℕ → ℕ) → 0 < s → (n : ℕ) → sum_below f n * w + n ≤ (sum_below (part w s f) n + n) * s
unfolding sum_by part
parts_near w s f p zero = omega arith
parts_near w s f p (suc n) = omega (arith, parts_near w s f p n, lt-div-mul-add {a = w * f n} p)

pub split_whole : (expenses split : List ℕ) (year : ℕ) → 0 < year_sum split year → SplitWhole expenses split year
unfolding shares_of share year_sum part
split_whole expenses split year p =
    let w = lowered expenses year in
    let s = year_sum split year in
    let f = figure split year in
    record {
      never_above = le_of_mul-le-mul_right {k = s} (omega (arith, parts_below w s f 5)) p;
      nearly_all = lt_of_mul-lt-mul_right s (omega (arith, parts_near w s f p 5));
    }
