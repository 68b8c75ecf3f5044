-- The cells and the terms of a product group in a setting, read off a book.
use Rattle.std.specs.Prelude.{cond, ℕ, zero, suc, ◌+◌, ◌-◌, ◌*◌, ◌%◌, ◌<◌, min, List, [], ◌∷◌, ◌++◌, ltb, eqb}
use Rattle.le_bytes.specs.Bytes.{read_u32}
use Rattle.book.specs.Layout.{last_class, head_of, sex_of, class_of, next_of, field_of, count_offset, lapse_offset}
use Rattle.book.specs.Layout.{premium_offset, claims_offset, cost_place, curve_place, mortality_place, mortality_size}
use Rattle.book.specs.Cells.{first_chain, chains_of}
use Rattle.settings_decrements.specs.Decrements.{mortality_in, lapse_in}
use Rattle.settings_decrements.specs.Decrements.{Decrements}
use Rattle.settings_outgo.specs.Outgoings.{outgoings_of, costs_in, claims_weight_in}
use Rattle.valuation.specs.Steps.{Cell, Terms}

-- Tables: the mortality of a sex and class, the cost rate of product group g, and 1,000,000 more than the rate of year
-- k.
unfoldable pub mortality_of : List ℕ → ℕ → ℕ → ℕ
mortality_of b sex class = read_u32 b (mortality_place + mortality_size * sex + 4 * class)

unfoldable pub cost_rate_of : List ℕ → ℕ → ℕ
cost_rate_of b g = read_u32 b (cost_place + 4 * (g - 1))

-- a rate below zero is stored in two's complement, so the sum is taken in 32 bits; year 0 is not discounted
unfoldable pub divisor_of : List ℕ → ℕ → ℕ
divisor_of b k = cond (eqb k 0) 1_000_000 ((read_u32 b (curve_place + 4 * (k - 1)) + 1_000_000) % 4_294_967_296)

-- none of the 49 stored rates is below zero: one that is would be 2,147,483,648 or more as it stands in its four bytes
abbrev pub NoRateBelowZero : List ℕ → Type 0
NoRateBelowZero b = (j : ℕ) → j < 49 → read_u32 b (curve_place + 4 * j) < 2_147_483_648

-- one less a rate in millionths at a weight in thousandths, in billionths; the weighted rate is cut to one (the order's
-- rule)
unfoldable pub one_less : ℕ → ℕ → ℕ
one_less rate weight = 1_000_000_000 - min (rate * weight) 1_000_000_000

-- The record that holds for a cell a year later: the next one of its chain; at the last class the same, for a contract
-- renews while the insured lives (FINMA 2.2, 4.2).
abbrev pub onward : List ℕ → ℕ → ℕ
onward b i = cond (ltb (class_of b i) (last_class 1)) (next_of b i) i

-- the record that holds for the cell of record i in year k
unfoldable pub row_at : List ℕ → ℕ → ℕ → ℕ
row_at b i zero = i
row_at b i (suc k) = onward b (row_at b i k)

-- The cell of record i at the weights w: in year k the rates and amounts of the class that it has reached.
unfoldable pub cell_of : List ℕ → Decrements → ℕ → Cell
cell_of b w i = record {
  count = field_of b i count_offset;
  survival = λ k. one_less (mortality_of b (sex_of b i) (class_of b (row_at b i k))) (mortality_in w (sex_of b i) k);
  persistency = λ k. one_less (field_of b (row_at b i k) lapse_offset) (lapse_in w k);
  premium = λ k. field_of b (row_at b i k) premium_offset;
  claims = λ k. field_of b (row_at b i k) claims_offset;
}

-- the linked records from record i on, at most m of them
unfoldable pub links_from : List ℕ → ℕ → ℕ → List ℕ
links_from b i zero = []
links_from b i (suc m) = cond (eqb i 0) [] (i ∷ links_from b (next_of b i) m)

-- the linked records of chain k, which has at most one for each class
abbrev pub chain_links : List ℕ → ℕ → List ℕ
chain_links b k = links_from b (head_of b k) (last_class 1 + 1)

-- those of chain k and the chains after it, so many in all
unfoldable pub links_of : List ℕ → ℕ → ℕ → List ℕ
links_of b k zero = []
links_of b k (suc left) = chain_links b k ++ links_of b (k + 1) left

-- the linked records of product group g, and their cells
abbrev pub group_links : List ℕ → ℕ → List ℕ
group_links b g = links_of b (first_chain g) (chains_of g)

unfoldable pub cells_of : List ℕ → Decrements → List ℕ → List Cell
cells_of b w [] = []
cells_of b w (i ∷ links) = cell_of b w i ∷ cells_of b w links

abbrev pub group_cells : List ℕ → Decrements → ℕ → List Cell
group_cells b w g = cells_of b w (group_links b g)

-- what holds for all cells of product group g in a setting
unfoldable pub terms_of : List ℕ → ℕ → ℕ → Terms
terms_of b setting g = record {
  claims_weight = λ k. claims_weight_in (outgoings_of setting) k;
  cost_weight = λ k. costs_in (outgoings_of setting) k;
  cost_rate = cost_rate_of b g;
  divisor = λ k. divisor_of b k;
}
