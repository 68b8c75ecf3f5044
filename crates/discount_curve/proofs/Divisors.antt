-- A law of a divisor's fraction. Assumes nothing.
use mathlib.Core.Path.{◌≡◌}
use Prim.Native.Nat.{ℕ, ◌+◌, ◌*◌, ◌≤◌, ◌<◌}
use native.Mathlib.Omega.{arith}
use Rattle.arith.specs.Fractions.{IsFraction}
use Rattle.arith.proofs.Division.{fraction_is}

-- the fraction of a divisor, from what is whole of it and what is left
pub fraction_down : (d q s c : ℕ) → q * d + s ≡ 9223372036854775808 → c * d ≤ 1000000 * s → 1000000 * s < c * d + d
    → IsFraction 1000000 (2 * d) (1000000 * q + c)
fraction_down d q s c e low high = fraction_is 1000000 (2 * d) (1000000 * q + c) (omega arith) (omega arith)
