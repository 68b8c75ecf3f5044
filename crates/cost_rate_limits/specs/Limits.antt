-- The limits of the figures of accounts: 17 where one is passed.
-- `every test n`: the test holds for each number below n.
use Rattle.std.specs.Prelude.{ℕ, Bool, ◌&&◌, List, get_or, leb}
use Rattle.conditions.specs.Every.{every}
use Rattle.cost_rate_shares.specs.declared.Accounts.{Accounts}

-- in francs
abbrev pub highest_amount : ℕ
highest_amount = 1_000_000_000

-- in contracts
abbrev pub highest_stock : ℕ
highest_stock = 10_000_000

-- none of the first n figures is above the limit
unfoldable pub all_at_most : ℕ → List ℕ → ℕ → Bool
all_at_most limit figures n = every (λ (place : ℕ). leb (get_or figures place 0) limit) n

-- 17 where not: every amount is at most 1,000,000,000 and every stock at most 10,000,000
unfoldable pub within_limits : Accounts → Bool
within_limits a =
    all_at_most highest_amount a.expenses 3
    && all_at_most highest_stock a.stock 15
    && all_at_most highest_amount a.claims 15
    && all_at_most highest_amount a.premium 15
