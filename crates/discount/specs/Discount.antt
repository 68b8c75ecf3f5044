-- Amounts of the years discounted, as the code computes them.
use Rattle.std.specs.Prelude.{◌≡◌, List, map, ℕ, ◌+◌, ◌*◌, ◌/◌, ◌<◌, ◌≤◌, min, get_or}
use Rattle.valuation.specs.Arithmetic.{rounded}
use Rattle.valuation.specs.Steps.{discounted}
use Rattle.discount.specs.declared.curve.YearDivisor.{YearDivisor}

-- the divisors of the fifty years
abbrev pub divisors : List YearDivisor → List ℕ
divisors curve = map (λ y. y.divisor) curve

-- a year back in the years from `from` to before `to`, each at its own divisor; the other years stay
pub record Stepped (by : List ℕ) (from to : ℕ) (before after : List ℕ) : Type 0 where
  pub stepped : (k : ℕ) → from ≤ k → k < to → get_or after k 0 ≡ get_or before k 0 * 1_000_000 / get_or by k 0
  pub earlier : (k : ℕ) → k < from → get_or after k 0 ≡ get_or before k 0
  pub later : (k : ℕ) → to ≤ k → get_or after k 0 ≡ get_or before k 0

-- step 5 of an amount, for j years with the divisor d. The bound leaves space for a further step.
pub record Discounted (d j x r : ℕ) : Type 0 where
  pub is : r ≡ discounted rounded d j x
  pub most : r ≤ 4_000_000_000_000_000 + 82_000_000_000_000 * j

-- step 5 of the years before `to`, each at its own divisor: for j years, or for its own number of years where that is
-- less
pub record DiscountedIn (by : List ℕ) (j to : ℕ) (before after : List ℕ) : Type 0 where
  pub each : (k : ℕ) → k < to → Discounted (get_or by k 0) (min j k) (get_or before k 0) (get_or after k 0)
