-- `rate_table::fraction_of` meets its contract: 2^64 is 18,446,744,073 whole billions and 709,551,616 more. Assumes
-- nothing.
use Prim.Native.Nat.{ℕ, ◌+◌, ◌*◌, ◌≤◌, ◌<◌}
use native.Mathlib.Omega.{arith}
use Rattle.arith.specs.Fractions.{IsFraction}
use Rattle.rate_table.proofs.fraction_of.Goals as goal

pub returns-then-rate-eq1000000000 : goal.returns-then-rate-eq1000000000
unfolding IsFraction
returns-then-rate-eq1000000000 c = omega (arith, c.if-rate-eq1000000000.true)

-- the product with the whole billions, and that with the rest, rounded down
rounded_down : (rate part : ℕ) → part * 1000000000 ≤ rate * 709551616
    → rate * 709551616 < part * 1000000000 + 1000000000
    → IsFraction rate 1000000000 (rate * 18446744073 + part)
unfolding IsFraction
rounded_down rate part low high = (omega arith, omega arith)

pub returns : goal.returns
returns c = rounded_down c.args.rate _ (omega arith) (omega arith)
