-- The year by year valuation, said once over a way of computing: `rounded` gives the figures, `exact` their exact
-- values.
use Rattle.std.specs.Prelude.{Bool, true, false, List, [], ◌∷◌, ℕ, zero, suc, ◌+◌, ◌*◌, leb, eqb, ℤ, pos, ◌-ℤ◌}
use Rattle.lists.specs.Sums.{sum_by}
use Rattle.valuation.specs.Arithmetic.{Arithmetic, rounded, exact, Fraction}

-- A cell, document 01's term for a model point: its contracts and, for each year k, what goes with it.
pub record Cell : Type 0 where
  pub count : ℕ
  -- one less mortality, and one less lapse, in billionths
  pub survival : ℕ → ℕ
  pub persistency : ℕ → ℕ
  -- per contract and year
  pub premium : ℕ → ℕ
  pub claims : ℕ → ℕ

-- what holds for all cells of a group in one setting
pub record Terms : Type 0 where
  -- weights in thousandths
  pub claims_weight : ℕ → ℕ
  pub cost_weight : ℕ → ℕ
  -- millionths of premium
  pub cost_rate : ℕ
  -- 1,000,000 and the rate of year k
  pub divisor : ℕ → ℕ

-- n: the number of cells whose count is not 0
abbrev pub one_unless : Bool → ℕ
one_unless true = 0
one_unless false = 1

unfoldable pub held : List Cell → ℕ
held [] = 0
held (c ∷ cs) = one_unless (eqb c.count 0) + held cs

module _ (A : Arithmetic) where
  -- step 1: in force, document 01's term for the policies still in force, in billionths of a contract
  unfoldable pub in_force : Cell → ℕ → A.Number
  in_force c zero = A.whole (c.count * 1_000_000_000)
  in_force c (suc k) = A.part (A.part (in_force c k) (c.survival k) 1_000_000_000) (c.persistency k) 1_000_000_000

  -- step 2: premium and claims of a cell, and their sums over the cells
  unfoldable pub cell_premium : ℕ → Cell → A.Number
  cell_premium k c = A.part (in_force c k) (c.premium k) 1_000_000_000

  unfoldable pub cell_claims : ℕ → Cell → A.Number
  cell_claims k c = A.part (in_force c k) (c.claims k) 1_000_000_000

  unfoldable pub sum_cells : (Cell → A.Number) → List Cell → A.Number
  sum_cells g [] = A.whole 0
  sum_cells g (c ∷ cs) = A.plus (g c) (sum_cells g cs)

  unfoldable pub premium_sum : List Cell → ℕ → A.Number
  premium_sum cs k = sum_cells (cell_premium k) cs

  unfoldable pub claims_sum : List Cell → ℕ → A.Number
  claims_sum cs k = sum_cells (cell_claims k) cs

  -- step 3: the outgo, document 01's term for claims and expenses together: the weighted claims, and the cost
  -- (FINMA 4.4.8) of the premium before the cap (the order's rule)
  unfoldable pub outgo : Terms → List Cell → ℕ → A.Number
  outgo t cs k =
      A.plus (A.part (claims_sum cs k) (t.claims_weight k) 1000)
      (A.part (premium_sum cs k) (t.cost_rate * t.cost_weight k) 1_000_000_000)

  -- step 4: the cap, document 01's term for the limit on premiums (FINMA 4.5): at most ten ninths of the outgo, from
  -- the sixth year (k = 5) on
  unfoldable pub capped_if : Bool → A.Number → A.Number → A.Number
  capped_if true p o = A.lesser p (A.part o 10 9)
  capped_if false p o = p

  unfoldable pub capped : ℕ → A.Number → A.Number → A.Number
  capped k p o = capped_if (leb 5 k) p o

  -- the counted premium, document 01's term for the premium after the cap
  unfoldable pub counted_premium : Terms → List Cell → ℕ → A.Number
  counted_premium t cs k = capped k (premium_sum cs k) (outgo t cs k)

  -- step 5: discounted for j years with the divisor d, each year one step on the amount of one year less
  unfoldable pub discounted : ℕ → ℕ → A.Number → A.Number
  discounted d zero x = x
  discounted d (suc j) x = A.part (discounted d j x) 1_000_000 d

  unfoldable pub discounted_outgo : Terms → List Cell → ℕ → A.Number
  discounted_outgo t cs k = discounted (t.divisor k) k (outgo t cs k)

  unfoldable pub discounted_premium : Terms → List Cell → ℕ → A.Number
  discounted_premium t cs k = discounted (t.divisor k) k (counted_premium t cs k)

  -- step 6: summed over the fifty years
  abbrev pub sum_years : (ℕ → A.Number) → A.Number
  sum_years g = sum_by (A.whole 0) A.plus g 50

  unfoldable pub total_outgo : Terms → List Cell → A.Number
  total_outgo t cs = sum_years (discounted_outgo t cs)

  unfoldable pub total_premium : Terms → List Cell → A.Number
  total_premium t cs = sum_years (discounted_premium t cs)

-- a signed number over a whole number
pub record SignedFraction : Type 0 where
  pub over : ℤ
  pub under : ℕ

-- x less y
abbrev pub less : Fraction → Fraction → SignedFraction
less x y = record { over = pos (x.over * y.under) -ℤ pos (y.over * x.under); under = x.under * y.under }

-- the liability, and its exact value, document 01's term for what the same steps give without rounding
unfoldable pub liability : Terms → List Cell → ℤ
liability t cs = pos (total_outgo rounded t cs) -ℤ pos (total_premium rounded t cs)

unfoldable pub exact_liability : Terms → List Cell → SignedFraction
exact_liability t cs = less (total_outgo exact t cs) (total_premium exact t cs)
