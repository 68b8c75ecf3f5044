-- A fraction kept as a whole number, by which a product's upper half is the quotient.
use Rattle.std.specs.Prelude.{ℕ, ◌+◌, ◌-◌, ◌*◌, ◌%◌, ◌≤◌, Bool, nat_lt}

-- f is w over d in parts of 2^64, rounded down; for one whole 2^64 - 1 will do
unfoldable pub IsFraction : ℕ → ℕ → ℕ → Type 0
IsFraction w d f = (f * d ≤ w * 18446744073709551616) × (w * 18446744073709551616 ≤ f * d + d)

-- the lower half of a product ends at most m below 2^64
abbrev pub near_top : ℕ → ℕ → Bool
near_top m n = nat_lt (18446744073709551615 - m) (n % 18446744073709551616)
