-- What 17 and 18 of the accounts leave to the functions here.
use Rattle.std.specs.Prelude.{ℕ, ◌<◌, ◌≡◌, false}
use Rattle.lists.specs.AtMost.{AtMost}
use Rattle.cost_rate_shares.specs.declared.Accounts.{Accounts}
use Rattle.cost_rate_shares.specs.Rates.{figure, year_sum, is_empty}

-- accounts that pass 17: no figure is above 1,000,000,000
pub record Bounded (a : Accounts) : Type 0 where
  pub expenses : AtMost 1_000_000_000 3 a.expenses
  pub stock : AtMost 1_000_000_000 15 a.stock
  pub claims : AtMost 1_000_000_000 15 a.claims
  pub premium : AtMost 1_000_000_000 15 a.premium

-- accounts that pass 17 and 18
pub record Usable (a : Accounts) : Type 0 where
  pub bounded : Bounded a
  pub some_stock : (year : ℕ) → year < 3 → 0 < year_sum a.stock year
  pub some_claims : (year : ℕ) → year < 3 → 0 < year_sum a.claims year
  pub paid : (group year : ℕ) → group < 5 → year < 3 → is_empty a group ≡ false → 0 < figure a.premium year group
