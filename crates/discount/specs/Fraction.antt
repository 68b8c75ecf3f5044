-- The fraction of a divisor. Assumes nothing.
use Rattle.std.specs.Prelude.{ℕ, ◌*◌}
use Rattle.std.specs.Coded.{×_prop, le_prop}
use Rattle.arith.specs.Fractions.{IsFraction}

-- 1,000,000 over twice the divisor
abbrev pub HasFraction : ℕ → ℕ → Type 0
HasFraction d f = IsFraction 1_000_000 (2 * d) f

-- there is one proof of it at most
pub fraction_prop : (d f : ℕ) → IsProp (HasFraction d f)
unfolding IsFraction
fraction_prop d f = ×_prop le_prop le_prop
