-- A list none of whose first numbers is above a limit.
use Rattle.std.specs.Prelude.{ℕ, ◌<◌, ◌≤◌, List, get_or}

-- none of the first n numbers is above the limit
pub record AtMost (limit n : ℕ) (xs : List ℕ) : Type 0 where
  pub each : (k : ℕ) → k < n → get_or xs k 0 ≤ limit
