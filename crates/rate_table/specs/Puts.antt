-- What is stored in a table of rows: a rate with its fraction, a row. All other numbers that count stay as they were.
use Rattle.std.specs.Prelude.{List, ◌≡◌, ℕ, ◌+◌, ◌*◌, ◌≤◌, ◌<◌, get_or}
use Rattle.arith.specs.Fractions.{IsFraction}
use Rattle.valuation.specs.Portfolio.{one_less}
use Rattle.rate_table.specs.declared.Weights.{Weights}
use Rattle.rate_table.specs.Rows.{rate, fraction, RowOf}

-- the fraction of a rate at a place and the rate eight places on
pub record Put (before after : List ℕ) (at rate : ℕ) : Type 0 where
  pub fraction_is : IsFraction rate 1_000_000_000 (get_or after at 0)
  pub rate_is : get_or after (at + 8) 0 ≡ rate
  pub kept : (j : ℕ) → (j ≡ at → ⊥) → (j ≡ at + 8 → ⊥) → get_or after j 0 ≡ get_or before j 0

-- column c of row r holds a rate and its fraction
pub record Holds (t : List ℕ) (r c v : ℕ) : Type 0 where
  pub part : IsFraction v 1_000_000_000 (fraction t r c)
  pub whole : rate t r c ≡ v
  pub most : v ≤ 1_000_000_000

-- the first n columns of row r hold their rates, and what stood before the row stands
pub record Filled (rates : ℕ → ℕ) (before t : List ℕ) (r n : ℕ) : Type 0 where
  pub holds : (c : ℕ) → c < n → Holds t r c (rates c)
  pub kept : (j : ℕ) → j < 16 * r → get_or t j 0 ≡ get_or before j 0

-- three columns more, from column n on: one less a rate at three weights
abbrev pub ThreeMore : List ℕ → List ℕ → ℕ → ℕ → ℕ → Weights → Type 0
ThreeMore t u r n v w =
    (rates : ℕ → ℕ) (before : List ℕ) → one_less v w.base ≡ rates n → one_less v w.up ≡ rates (n + 1)
    → one_less v w.down ≡ rates (n + 2)
    → Filled rates before t r n → Filled rates before u r (n + 3)

-- row r, of record i of a chain of a sex; the rows before it are kept
pub record RowPut (b : List ℕ) (sex i : ℕ) (before after : List ℕ) (r : ℕ) : Type 0 where
  pub row : RowOf b sex i after r
  pub kept : (j : ℕ) → j < 16 * r → get_or after j 0 ≡ get_or before j 0
