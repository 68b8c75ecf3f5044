-- Accounts: the example of docs/WORKED_EXAMPLES.md, accepted; and accounts to which 17 and 18 both apply.
-- Assumes nothing.
use mathlib.Core.Path.{◌≡◌, refl}
use mathlib.Core.List.{[], ◌∷◌}
use Rattle.lists.specs.Sums.{sum_by}
use Rattle.verdict.specs.Verdicts.{need, first_refusal}
use Rattle.conditions.specs.Every.{every}
use Rattle.cost_rate_shares.specs.declared.Accounts.{Accounts}
use Rattle.cost_rate_shares.specs.Rates.{figure, year_sum, lowered, share, year_rate, none_in, is_empty}
use Rattle.cost_rate_shares.specs.Rates.{accounts_rate, rates_of}
use Rattle.cost_rate_limits.specs.Limits.{all_at_most, within_limits}
use Rattle.cost_rate_divisors.specs.Divisors.{can_split, is_paid, can_compute}
use Rattle.cost_rates.specs.Refusals.{check_accounts}
use Rattle.cost_rates.specs.Replies.{cost_rates}

-- PG5 is empty
pub worked : Accounts
worked =
    record {
      expenses = 2_400_001 ∷ 2_520_000 ∷ 2_480_010 ∷ [];
      stock =
          12_000 ∷ 3_000 ∷ 20_000 ∷ 5_000 ∷ 0 ∷
          12_400 ∷ 2_900 ∷ 20_500 ∷ 5_100 ∷ 0 ∷
          12_900 ∷ 2_850 ∷ 21_000 ∷ 5_250 ∷ 0 ∷ [];
      claims =
          14_400_000 ∷ 2_100_000 ∷ 6_000_000 ∷ 1_500_000 ∷ 0 ∷
          14_950_000 ∷ 2_050_000 ∷ 6_300_000 ∷ 1_600_000 ∷ 0 ∷
          15_600_000 ∷ 1_990_000 ∷ 6_550_000 ∷ 1_720_000 ∷ 0 ∷ [];
      premium =
          18_000_000 ∷ 3_000_000 ∷ 8_000_000 ∷ 2_000_000 ∷ 0 ∷
          18_700_000 ∷ 2_950_000 ∷ 8_300_000 ∷ 2_100_000 ∷ 0 ∷
          19_500_000 ∷ 2_900_000 ∷ 8_700_000 ∷ 2_250_000 ∷ 0 ∷ [];
    }

pub worked_example : cost_rates worked
    ≡ record { refusal = 0; place = 0; rates = 56_611 ∷ 60_916 ∷ 105_881 ∷ 104_948 ∷ 0 ∷ [] }
unfolding worked cost_rates check_accounts within_limits all_at_most can_compute can_split is_paid need first_refusal
    rates_of
    accounts_rate is_empty none_in every year_rate share lowered year_sum sum_by figure
worked_example = refl

-- expenses too high, and nothing to split them by
pub too_high : Accounts
too_high = record { expenses = 1_000_000_001 ∷ 0 ∷ 0 ∷ []; stock = []; claims = []; premium = [] }

pub too_high_first : (cost_rates too_high).refusal ≡ 17
unfolding too_high cost_rates check_accounts within_limits all_at_most can_compute can_split is_paid need first_refusal
    is_empty
    none_in every year_sum sum_by figure
too_high_first = refl
