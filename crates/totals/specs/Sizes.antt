-- How large the totals are.
use Rattle.std.specs.Prelude.{List, ℕ, ◌≤◌, ℤ, pos, get_or}
use Rattle.std.specs.Int.Signed.{mag}

-- no total is too large for a difference
abbrev pub Sizes : List ℤ → Type 0
Sizes totals = (j : ℕ) → mag (get_or totals j (pos 0)) ≤ 2_475_000_000_000_000_005
