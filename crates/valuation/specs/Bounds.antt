-- What the distance rests on: the ranges of cells and terms. And what it means to be within a distance.
use Rattle.std.specs.Prelude.{List, [], ◌∷◌, ℕ, ◌*◌, ◌≤◌, ◌<◌, ℤ, pos, nat_abs, ◌*ℤ◌, ◌-ℤ◌}
use Rattle.valuation.specs.Steps.{Cell, Terms, SignedFraction}

-- in the years 0 to 49
pub record GoodCell (c : Cell) : Type 0 where
  pub survival_most : (k : ℕ) → k < 50 → c.survival k ≤ 1_000_000_000
  pub persistency_most : (k : ℕ) → k < 50 → c.persistency k ≤ 1_000_000_000
  pub premium_most : (k : ℕ) → k < 50 → c.premium k ≤ 10_000_000
  pub claims_most : (k : ℕ) → k < 50 → c.claims k ≤ 10_000_000

abbrev pub GoodCells : List Cell → Type 0
GoodCells [] = Unit {0}
GoodCells (c ∷ cs) = GoodCell c × GoodCells cs

-- with no divisor below D
pub record GoodTerms (D : ℕ) (t : Terms) : Type 0 where
  pub claims_weight-most : (k : ℕ) → k < 50 → t.claims_weight k ≤ 1050
  pub cost_weight-most : (k : ℕ) → k < 50 → t.cost_weight k ≤ 1200
  pub cost_rate_most : t.cost_rate ≤ 1_000_000
  pub divisor_least : (k : ℕ) → 0 < k → k < 50 → D ≤ t.divisor k

-- the whole number z is at most b away from the fraction x
pub record Within (b : ℕ) (z : ℤ) (x : SignedFraction) : Type 0 where
  pub under_positive : 0 < x.under
  pub distance : nat_abs (z *ℤ pos x.under -ℤ x.over) ≤ b * x.under
