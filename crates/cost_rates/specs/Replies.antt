-- What the call answers, and what is promised of it.
use Rattle.std.specs.Prelude.{ℕ, ◌+◌, ◌≤◌, ◌<◌, ◌≡◌, List, [], ◌∷◌, Ok, Err}
use Rattle.lists.specs.AtMost.{AtMost}
use Rattle.lists.specs.Sums.{sum_below}
use Rattle.verdict.specs.Verdicts.{Verdict}
use Rattle.cost_rate_shares.specs.declared.Accounts.{Accounts}
use Rattle.cost_rate_shares.specs.Rates.{lowered, share, rates_of}
use Rattle.cost_rates.specs.declared.CostRates.{CostRates}
use Rattle.cost_rates.specs.Refusals.{highest_rate, check_accounts}

-- the five rates, or the refusal and 0 in every other field
abbrev pub rates_reply_for : Verdict → List ℕ → CostRates
rates_reply_for (Ok n) rates = record { refusal = 0; place = 0; rates = rates }
rates_reply_for (Err r) rates =
    record { refusal = r.number; place = r.place; rates = 0 ∷ 0 ∷ 0 ∷ 0 ∷ 0 ∷ [] }

-- the reply to accounts
unfoldable pub cost_rates : Accounts → CostRates
cost_rates a = rates_reply_for (check_accounts a) (rates_of a)

-- the five shares of a year together, where its expenses are split by stock, or by claims
unfoldable pub shares_of : List ℕ → List ℕ → ℕ → ℕ
shares_of expenses split year = sum_below (share expenses split year) 5

-- the shares of a year's split: together never above its lowered expenses, and less than 5 francs below them
pub record SplitWhole (expenses split : List ℕ) (year : ℕ) : Type 0 where
  pub never_above : shares_of expenses split year ≤ lowered expenses year
  pub nearly_all : lowered expenses year < shares_of expenses split year + 5

-- What the call promises: its reply equals its definition; where the accounts are not refused, both splits of each year
-- are whole; no rate is above 1,000,000, the most that a book's cost rate may be.
pub record RatesContract (a : Accounts) (reply : CostRates) : Type 0 where
  pub reply_is : reply ≡ cost_rates a
  pub by_stock : (year : ℕ) → year < 3 → reply.refusal ≡ 0 → SplitWhole a.expenses a.stock year
  pub by_claims : (year : ℕ) → year < 3 → reply.refusal ≡ 0 → SplitWhole a.expenses a.claims year
  pub limit : AtMost highest_rate 5 reply.rates
