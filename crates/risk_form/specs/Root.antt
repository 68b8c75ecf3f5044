-- The whole root.
use Rattle.std.specs.Prelude.{cond, ℕ, zero, suc, ◌+◌, ◌*◌, ◌≤◌, ◌<◌, leb}

-- the largest number up to n whose square is at most q
unfoldable pub root_up_to : ℕ → ℕ → ℕ
root_up_to zero q = 0
root_up_to (suc n) q = cond (leb (suc n * suc n) q) (suc n) (root_up_to n q)

-- the whole root of q; no root is above q
unfoldable pub root_of : ℕ → ℕ
root_of q = root_up_to q q

-- what makes r the whole root of q: its square is at most q, and the next whole number's square is above
pub record IntegerSquareRoot (q r : ℕ) : Type 0 where
  pub at_most : r * r ≤ q
  pub next_above : q < (r + 1) * (r + 1)
