-- The divisors of a book's years.
use Rattle.std.specs.Prelude.{◌≡◌, List, ℕ, ◌<◌, get_or}
use Rattle.valuation.specs.Portfolio.{divisor_of}
use Rattle.discount.specs.declared.curve.YearDivisor.{YearDivisor}
use Rattle.discount.specs.Discount.{divisors}

-- the divisors of the fifty years are the book's
abbrev pub CurveOf : List ℕ → List YearDivisor → Type 0
CurveOf b curve = (k : ℕ) → k < 50 → get_or (divisors curve) k 0 ≡ divisor_of b k
