-- What the call answers after each of its tests. Assumes nothing.
use mathlib.Core.Path.{◌≡◌}
use mathlib.Core.Bool.{true, false}
use mathlib.Core.List.{[]}
use Rattle.verdict.specs.Verdicts.{need, first_refusal, refused}
use Rattle.std.specs.Prelude.{Ok}
use Rattle.cost_rate_shares.specs.declared.Accounts.{Accounts}
use Rattle.cost_rate_shares.specs.Rates.{rates_of}
use Rattle.cost_rate_limits.specs.Limits.{all_at_most, within_limits}
use Rattle.cost_rate_divisors.specs.Divisors.{can_compute}
use Rattle.cost_rates.specs.Refusals.{highest_rate, check_accounts}
use Rattle.cost_rates.specs.Replies.{rates_reply_for, cost_rates}

module _ (a : Accounts) where
  pub replied_17 : within_limits a ≡ false → cost_rates a ≡ rates_reply_for (refused 17 0) []
  unfolding cost_rates check_accounts first_refusal need
  replied_17 limits = rw limits

  pub replied_18 : within_limits a ≡ true → can_compute a ≡ false → cost_rates a ≡ rates_reply_for (refused 18 0) []
  unfolding cost_rates check_accounts first_refusal need
  replied_18 limits sums = rw (limits, sums)

  pub replied_19 : within_limits a ≡ true → can_compute a ≡ true → all_at_most highest_rate (rates_of a) 5 ≡ false
      → cost_rates a ≡ rates_reply_for (refused 19 0) []
  unfolding cost_rates check_accounts first_refusal need
  replied_19 limits sums rates = rw (limits, sums, rates)

  pub replied_rates : within_limits a ≡ true → can_compute a ≡ true → all_at_most highest_rate (rates_of a) 5 ≡ true
      → cost_rates a ≡ rates_reply_for (Ok 0) (rates_of a)
  unfolding cost_rates check_accounts first_refusal need
  replied_rates limits sums rates = rw (limits, sums, rates)
