-- What some years of a product group give.
use Rattle.std.specs.Prelude.{◌≡◌, List, ℕ, ◌+◌, ◌*◌, ◌<◌, ◌≤◌, get_or}
use Rattle.lists.specs.Sums.{sum_below}
use Rattle.present_value.specs.Outcome.{year_outgo, year_premium}
use Rattle.cash_flow.specs.declared.Amounts.{Amounts}

-- of the years from `from` to before `to`, those from `end` on have neither premium nor outgo
pub record NoneFrom (premium outgo : List ℕ) (from to end : ℕ) : Type 0 where
  pub least : from ≤ end
  pub most : end ≤ to
  pub no_premium : (k : ℕ) → end ≤ k → k < to → get_or premium k 0 ≡ 0
  pub no_outgo : (k : ℕ) → end ≤ k → k < to → get_or outgo k 0 ≡ 0

-- what the years from `from` to before `to` give: what those before `to` give, less those before `from`
pub record AmountsIn (b : List ℕ) (setting g from to : ℕ) (r : Amounts) : Type 0 where
  pub outgo_is : sum_below (year_outgo b setting g) from + r.outgo ≡ sum_below (year_outgo b setting g) to
  pub premium_is : sum_below (year_premium b setting g) from + r.premium ≡ sum_below (year_premium b setting g) to
  -- so that two of them can be added
  pub outgo_most : r.outgo ≤ 9_000_000_000_000_000 * to
  pub premium_most : r.premium ≤ 9_000_000_000_000_000 * to
