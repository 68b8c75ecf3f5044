-- A whole number up to 2 ^ 53 is a double. Assumes nothing.
use Prim.Native.Nat.{ℕ, ◌^◌, ◌≤◌}
use native.Mathlib.Omega.{arith}
use lib.Dec.{T, le→leb}
use lib.IntN.{pos}
use lib.Ieee.{binary64, in_float}

pub whole_fits : (n : ℕ) → n ≤ 80000000 → T (in_float binary64 (pos n))
unfolding in_float
whole_fits n h = le→leb n (2 ^ 53) (omega arith)
