-- What shares and rates are divided by: 18 where any of it is zero.
-- `every test n`: the test holds for each number below n.
use Rattle.std.specs.Prelude.{ℕ, Bool, ◌&&◌, ◌||◌, List, ltb}
use Rattle.conditions.specs.Every.{every}
use Rattle.cost_rate_shares.specs.declared.Accounts.{Accounts}
use Rattle.cost_rate_shares.specs.Rates.{figure, year_sum, is_empty}

-- no year's sum is zero
unfoldable pub can_split : List ℕ → Bool
can_split split = every (λ (year : ℕ). ltb 0 (year_sum split year)) 3

-- the group is empty, or has premium in each of the three years
unfoldable pub is_paid : Accounts → ℕ → Bool
is_paid a group = is_empty a group || every (λ (year : ℕ). ltb 0 (figure a.premium year group)) 3

-- 18 where not: every year can be split by stock and by claims, and every group is empty or paid
unfoldable pub can_compute : Accounts → Bool
can_compute a = can_split a.stock && can_split a.claims && every (is_paid a) 5
