-- What the code adds to the table: for the cells of a chain and of a product group.
use Rattle.std.specs.Prelude.{Option, List, ◌≡◌, ℕ, ◌+◌, ◌<◌, ◌≤◌, get_or}
use Rattle.lists.specs.AtMost.{AtMost}
use Rattle.book.specs.Layout.{last_class}
use Rattle.book.specs.Cells.{held_from, held_in, held_of_group}
use Rattle.settings_decrements.specs.Decrements.{decrements_of}
use Rattle.valuation.specs.Arithmetic.{rounded}
use Rattle.valuation.specs.Steps.{premium_sum, claims_sum}
use Rattle.valuation.specs.Portfolio.{links_from, chain_links, group_cells}
use Rattle.cell_projection.specs.Tables.{year_count, table_numbers, premium_place, amount_in, Among, added_all}

-- what the cells of the records from record i on make of the table u, and how many hold contracts
pub record CellsAdded (b : List ℕ) (which : Option ℕ) (i n : ℕ) (u v : List ℕ) : Type 0 where
  pub sums : v ≡ added_all (amount_in b which) (links_from b i (last_class 1 + 1)) u
  pub n_is : n ≡ held_from b i (last_class 1 + 1)
  pub few : n ≤ 121

-- what the cells of chain k make of it, and how many hold contracts
pub record ChainAdded (b : List ℕ) (which : Option ℕ) (k n : ℕ) (u v : List ℕ) : Type 0 where
  pub sums : v ≡ added_all (amount_in b which) (chain_links b k) u
  pub n_is : n ≡ held_in b (last_class 1) k
  pub few : n ≤ 121

-- the table of product group g, ten numbers a year, has premium and claims of projection s
pub record TableIn (b : List ℕ) (s g : ℕ) (t : List ℕ) : Type 0 where
  pub premium_is : (k : ℕ) → k < year_count
      → get_or t (premium_place k s) 0 ≡ premium_sum rounded (group_cells b (decrements_of b s) g) k
  pub claims_is : (k : ℕ) → k < year_count
      → get_or t (premium_place k s + 1) 0 ≡ claims_sum rounded (group_cells b (decrements_of b s) g) k
  pub most : AtMost 726_000_000_000_000 table_numbers t

-- and those of all
abbrev pub TableOf : List ℕ → ℕ → List ℕ → Type 0
TableOf b g t = (s : ℕ) → s < 5 → TableIn b s g t

-- those of the projections that were asked for, and the group's n
pub record SumsOf (b : List ℕ) (which : Option ℕ) (g n : ℕ) (t : List ℕ) : Type 0 where
  pub table : (s : ℕ) → s < 5 → Among which s → TableIn b s g t
  pub n_is : n ≡ held_of_group b (last_class 1) g
