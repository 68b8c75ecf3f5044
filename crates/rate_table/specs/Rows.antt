-- A chain's rates and amounts in a table, a row for each year that a cell of it can reach, and what a row holds of a
-- record.
-- A row has sixteen numbers: the fractions of eight rates, then the eight rates. Columns: 0 what lives on in the base
-- setting, 1 where mortality is up, 2 where it is down; 3 what stays in the base setting, 4 where the lapse is up, 5
-- where it is down, all in billionths; 6 the premium, 7 the claims of a contract, in centimes. Every setting has one of
-- these in every year.
use Rattle.std.specs.Prelude.{cond, List, ◌≡◌, ℕ, ◌+◌, ◌-◌, ◌*◌, ◌<◌, ◌≤◌, eqb, get_or}
use Rattle.arith.specs.Fractions.{IsFraction}
use Rattle.book.specs.Layout.{chain_sex, class_of, field_of, lapse_offset, premium_offset, claims_offset}
use Rattle.settings_decrements.specs.Decrements.{decrements_at, of_sex}
use Rattle.valuation.specs.Portfolio.{mortality_of, one_less, row_at}

-- the rows of a table, and the numbers of a row
abbrev pub row_count : ℕ
row_count = 170

abbrev pub a_row : ℕ
a_row = 16

-- the rate of row r in column c, and the fraction by which shares of it are taken
abbrev pub rate : List ℕ → ℕ → ℕ → ℕ
rate t r c = get_or t (a_row * r + c + 8) 0

abbrev pub fraction : List ℕ → ℕ → ℕ → ℕ
fraction t r c = get_or t (a_row * r + c) 0

-- a row by which shares can be taken: each fraction is its rate's, and the rates keep their ranges
pub record RowReady (t : List ℕ) (r : ℕ) : Type 0 where
  pub fractions : (c : ℕ) → c < 8 → IsFraction (rate t r c) 1_000_000_000 (fraction t r c)
  pub shares : (c : ℕ) → c < 6 → rate t r c ≤ 1_000_000_000
  pub premium : rate t r 6 ≤ 10_000_000
  pub claims : rate t r 7 ≤ 10_000_000

-- of what lives on and of what stays, more deaths and more lapses leave the least, fewer the most
pub record RowOrdered (t : List ℕ) (r : ℕ) : Type 0 where
  pub mortality_is_up : rate t r 1 ≤ rate t r 0
  pub mortality_is_down : rate t r 0 ≤ rate t r 2
  pub lapse_up : rate t r 4 ≤ rate t r 3
  pub lapse_down : rate t r 3 ≤ rate t r 5

-- of record i of a chain of a sex, what lives on and what stays at the weights that a setting has in year 0
abbrev pub survival_at : List ℕ → ℕ → ℕ → ℕ → ℕ
survival_at b sex i setting = one_less (mortality_of b sex (class_of b i)) (of_sex sex (decrements_at b setting 0))

abbrev pub persistency_at : List ℕ → ℕ → ℕ → ℕ
persistency_at b i setting = one_less (field_of b i lapse_offset) (decrements_at b setting 0).lapse

-- the eight rates of record i of a chain of a sex
unfoldable pub rate_of : List ℕ → ℕ → ℕ → ℕ → ℕ
rate_of b sex i c =
    cond (eqb c 0) (survival_at b sex i 0)
    (cond (eqb c 1) (survival_at b sex i 1)
    (cond (eqb c 2) (survival_at b sex i 2)
    (cond (eqb c 3) (persistency_at b i 0)
    (cond (eqb c 4) (persistency_at b i 3)
    (cond (eqb c 5) (persistency_at b i 4)
    (cond (eqb c 6) (field_of b i premium_offset) (field_of b i claims_offset)))))))

-- row r holds record i of a chain of a sex
pub record RowOf (b : List ℕ) (sex i : ℕ) (t : List ℕ) (r : ℕ) : Type 0 where
  pub ready : RowReady t r
  pub rates : (c : ℕ) → c < 8 → rate t r c ≡ rate_of b sex i c

-- the rows from record i of a chain on: row r holds what holds for the cell of i in year r, up to fifty years of the
-- last class
abbrev pub RowsOf : List ℕ → ℕ → ℕ → List ℕ → Type 0
RowsOf b chain i t = (r : ℕ) → r < row_count - class_of b i → RowOf b (chain_sex chain) (row_at b i r) t r
