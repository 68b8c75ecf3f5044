-- The refusals of accounts: 17 over all figures first, 18 next, 19 last. None names a place.
use Rattle.std.specs.Prelude.{ℕ}
use Rattle.verdict.specs.Verdicts.{need, ◌and_then◌, Verdict}
use Rattle.cost_rate_shares.specs.declared.Accounts.{Accounts}
use Rattle.cost_rate_shares.specs.Rates.{rates_of}
use Rattle.cost_rate_limits.specs.Limits.{all_at_most, within_limits}
use Rattle.cost_rate_divisors.specs.Divisors.{can_compute}

-- in millionths of premium
abbrev pub highest_rate : ℕ
highest_rate = 1_000_000

-- the verdict on accounts: 19 where a rate passes 1,000,000
unfoldable pub check_accounts : Accounts → Verdict
check_accounts a =
    need (within_limits a) 17 0 and_then need (can_compute a) 18 0
    and_then need (all_at_most highest_rate (rates_of a) 5) 19 0
