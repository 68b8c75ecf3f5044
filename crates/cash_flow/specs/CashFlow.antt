-- Premium and outgo of a product group's years before discounting, as the code computes them.
use Rattle.std.specs.Prelude.{◌≡◌, List, map, ℕ, ◌+◌, ◌*◌, ◌/◌, ◌<◌, ◌≤◌, get_or}
use Rattle.lists.specs.AtMost.{AtMost}
use Rattle.cash_flow.specs.declared.Amounts.{Amounts}
use Rattle.settings_outgo.specs.Outgoings.{costs_in, claims_weight_in}
use Rattle.settings_decrements.specs.Decrements.{decrements_of}
use Rattle.settings_outgo.specs.Outgoings.{Outgoings}
use Rattle.valuation.specs.Arithmetic.{rounded}
use Rattle.valuation.specs.Steps.{outgo, counted_premium}
use Rattle.valuation.specs.Portfolio.{terms_of, group_cells}

-- step 3 of sums of premium and claims
unfoldable pub outgo_of : Outgoings → ℕ → ℕ → ℕ → ℕ → ℕ
outgo_of w k rate premium claims =
    claims * claims_weight_in w k / 1000 + premium * (rate * costs_in w k) / 1_000_000_000

-- the premiums of the years, and their outgo
abbrev pub premiums : List Amounts → List ℕ
premiums years = map (λ y. y.premium) years

abbrev pub outgoes : List Amounts → List ℕ
outgoes years = map (λ y. y.outgo) years

-- the amounts of the years from `from` to before `to` are f's, and no year's before `to` is above m
pub record InYears (f : ℕ → ℕ) (m from to : ℕ) (amounts : List ℕ) : Type 0 where
  pub are : (k : ℕ) → k < to → from ≤ k → get_or amounts k 0 ≡ f k
  pub most : AtMost m to amounts

-- premium after the cap and outgo of product group g by year
abbrev pub premium_before : List ℕ → ℕ → ℕ → ℕ → ℕ
premium_before b setting g = counted_premium rounded (terms_of b setting g) (group_cells b (decrements_of b setting) g)

abbrev pub outgo_before : List ℕ → ℕ → ℕ → ℕ → ℕ
outgo_before b setting g = outgo rounded (terms_of b setting g) (group_cells b (decrements_of b setting) g)

pub record Undiscounted (b : List ℕ) (setting g from to : ℕ) (years : List Amounts) : Type 0 where
  pub premium_is_in : InYears (premium_before b setting g) 4_000_000_000_000_000 from to (premiums years)
  pub outgo_in : InYears (outgo_before b setting g) 4_000_000_000_000_000 from to (outgoes years)
