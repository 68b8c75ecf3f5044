-- What valuing a product group gives.
use Rattle.std.specs.Prelude.{◌≡◌, List, [], ◌∷◌, ◌++◌, ℕ, ◌≤◌, ℤ, drop}
use Rattle.std.specs.Int.Signed.{mag}
use Rattle.settings_decrements.specs.Decrements.{decrements_of}
use Rattle.valuation.specs.Arithmetic.{rounded}
use Rattle.valuation.specs.Steps.{Cell, Terms, outgo, counted_premium, discounted_outgo, discounted_premium}
use Rattle.valuation.specs.Portfolio.{terms_of, group_cells}
use Rattle.valuation.specs.Replies.{group_liability, year_table}
use Rattle.present_value.specs.declared.Year.{Year}

-- the year's four numbers by the valuation's steps
unfoldable pub year_of : Terms → List Cell → ℕ → Year
year_of t cs k = record {
  premium = counted_premium rounded t cs k;
  outgo = outgo rounded t cs k;
  discounted_premium = discounted_premium rounded t cs k;
  discounted_outgo = discounted_outgo rounded t cs k;
}

-- in the order of the year table
abbrev pub four_of : Year → List ℕ
four_of y = y.premium ∷ y.outgo ∷ y.discounted_premium ∷ y.discounted_outgo ∷ []

-- discounted outgo and premium of product group g by year
abbrev pub year_outgo : List ℕ → ℕ → ℕ → ℕ → ℕ
year_outgo b setting g = discounted_outgo rounded (terms_of b setting g) (group_cells b (decrements_of b setting) g)

abbrev pub year_premium : List ℕ → ℕ → ℕ → ℕ → ℕ
year_premium b setting g = discounted_premium rounded (terms_of b setting g) (group_cells b (decrements_of b setting) g)

-- what valuing a product group gives: its liability, and the caller's table with the fifty years first
pub record GroupValued (b : List ℕ) (setting g : ℕ) (before after : List ℕ) (r : ℤ) : Type 0 where
  pub liability_is : r ≡ group_liability b setting g
  pub table_is : after
      ≡ year_table (terms_of b setting g) (group_cells b (decrements_of b setting) g) 50 ++ drop 200 before
  -- so that five of them can be added
  pub size : mag r ≤ 450_000_000_000_000_000
