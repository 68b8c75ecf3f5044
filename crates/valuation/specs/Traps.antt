-- The five traps of document 01 and a sixth, discounting in one step: a small example of each on the definitions that
-- the calls meet, and what the wrong rule would make of it.
use Rattle.std.specs.Prelude.{cond, ◌≡◌, List, [], ◌∷◌, ◌++◌, ℕ, ◌+◌, ◌-◌, ◌*◌, ◌/◌, leb, eqb, pos, ◌+ℤ◌, ◌-ℤ◌}
use Rattle.std.specs.Prelude.{get_or, replicate}
use Rattle.le_bytes.specs.Bytes.{four_bytes}
use Rattle.settings_decrements.specs.Decrements.{decrements_of}
use Rattle.valuation.specs.Arithmetic.{rounded}
use Rattle.valuation.specs.Steps.{Cell, Terms, in_force, premium_sum, claims_sum, outgo, capped_if}
use Rattle.valuation.specs.Steps.{counted_premium, liability}
use Rattle.valuation.specs.Portfolio.{chain_links, cell_of, cells_of, group_cells, terms_of}
use Rattle.valuation.specs.Replies.{year_numbers, year_table, group_liability, group_years}

-- A contract that nobody leaves, with the same premium and claims every year. PG1a has a rich one, PG1b a poor one.
abbrev pub lasting : ℕ → ℕ → Cell
lasting premium claims = record {
  count = 1;
  survival = λ k. 1_000_000_000;
  persistency = λ k. 1_000_000_000;
  premium = λ k. premium;
  claims = λ k. claims;
}

abbrev pub rich : List Cell
rich = lasting 1_500 100 ∷ []

abbrev pub poor : List Cell
poor = lasting 100 1_000 ∷ []

abbrev pub both : List Cell
both = rich ++ poor

-- a tenth of the premium is cost; the rate of k = 2 is two percent, the other rates are 0
abbrev pub trap_terms : Terms
trap_terms = record {
  claims_weight = λ k. 1000;
  cost_weight = λ k. 1000;
  cost_rate = 100_000;
  divisor = λ k. cond (eqb k 2) 1_020_000 1_000_000;
}

-- what the year table has in year k: premium after cap, outgo, discounted outgo
abbrev pub cells_premium_in : List Cell → ℕ → ℕ
cells_premium_in cs k = get_or (year_numbers trap_terms cs k) 0 0

abbrev pub cells_outgo_in : List Cell → ℕ → ℕ
cells_outgo_in cs k = get_or (year_numbers trap_terms cs k) 1 0

abbrev pub discounted_in : List Cell → ℕ → ℕ
discounted_in cs k = get_or (year_numbers trap_terms cs k) 3 0

-- lists end to end
unfoldable pub end_to_end : List (List ℕ) → List ℕ
end_to_end [] = []
end_to_end (xs ∷ rest) = xs ++ end_to_end rest

-- a record of men of PG2, of whom a tenth leave each year: its class, the record after it, and its count
unfoldable pub men_at : ℕ → ℕ → ℕ → List ℕ
men_at class next count =
    end_to_end
    ((4 ∷ 0 ∷ class ∷ 0 ∷ next ∷ 0 ∷ 0 ∷ 0 ∷ []) ∷ four_bytes count ∷ four_bytes 100_000 ∷ replicate 8 0 ∷ [])

-- A book of edition 1 with one man at class 119; there and at class 120 half of the men die, before weights.
-- In turn its header; heads; cost rates and curve; mortality of men and of women; records.
unfoldable pub men_book : List ℕ
men_book =
    end_to_end (
    (1 ∷ 1 ∷ 232 ∷ 7 ∷ 2 ∷ 0 ∷ 0 ∷ 0 ∷ []) ∷
    replicate 12 0 ∷ (1 ∷ 0 ∷ []) ∷ replicate 14 0 ∷
    replicate 216 0 ∷
    replicate 476 0 ∷ four_bytes 500_000 ∷ four_bytes 500_000 ∷ replicate 484 0 ∷
    men_at 119 2 1 ∷ men_at 120 0 0 ∷ [])

-- the man's cell in a setting
abbrev pub man_in : ℕ → Cell
man_in setting = cell_of men_book (decrements_of men_book setting) 1

-- Wrong rules. The cap starts at k = 6.
abbrev pub capped_from_six : List Cell → ℕ → ℕ
capped_from_six cs k = capped_if rounded (leb 6 k) (premium_sum rounded cs k) (outgo rounded trap_terms cs k)

-- One less the sum of death and lapse goes on.
abbrev pub next_by_sum : Cell → ℕ → ℕ
next_by_sum c k =
    in_force rounded c k * (1_000_000_000 - ((1_000_000_000 - c.survival k) + (1_000_000_000 - c.persistency k)))
    / 1_000_000_000

-- The cost, a tenth, is of the premium after the cap.
abbrev pub outgo_of_capped : List Cell → ℕ → ℕ
outgo_of_capped cs k = claims_sum rounded cs k + counted_premium rounded trap_terms cs k / 10

-- An amount goes back two years in one step, with the divisor d.
abbrev pub two_years_in_one_step : ℕ → ℕ → ℕ
two_years_in_one_step d x = x * (1_000_000 * 1_000_000) / (d * d)

-- by the definitions it is one figure, by the wrong rule another
pub record Apart {A : Type 0} (defined figure wrong other : A) : Type 0 where
  pub figure_is : defined ≡ figure
  pub other_is : wrong ≡ other
  pub differ : figure ≡ other → ⊥

-- Of any book: the years and the liability of a product group are those of all its cells together, and PG1 has the
-- cells of all six chains of PG1a, PG1b and PG1c.
pub record Together (b : List ℕ) (setting : ℕ) : Type 0 where
  pub years : (g : ℕ)
      → group_years b setting g ≡ year_table (terms_of b setting g) (group_cells b (decrements_of b setting) g) 50
  pub liability_is : (g : ℕ)
      → group_liability b setting g ≡ liability (terms_of b setting g) (group_cells b (decrements_of b setting) g)
  pub pg1 : group_cells b (decrements_of b setting) 1 ≡ cells_of b (decrements_of b setting)
      (end_to_end (chain_links b 0 ∷ chain_links b 1 ∷ chain_links b 2 ∷ chain_links b 3 ∷ chain_links b 4
      ∷ chain_links b 5 ∷ []))

pub record Traps : Type 0 where
  -- PG1a, PG1b and PG1c capped one by one: 1,500 would be cut to 277, and 100 stay
  pub subgroups_capped_one_by_one :
      Apart (cells_premium_in both 5) 1_400 (cells_premium_in rich 5 + cells_premium_in poor 5)
      377
  pub subgroups_added : Apart (liability trap_terms both) (pos 0 -ℤ pos 7_987)
      (liability trap_terms rich +ℤ liability trap_terms poor) (pos 38_048)
  pub groups_together : (b : List ℕ) (setting : ℕ) → Together b setting
  -- the cap from k = 6: the premium of 1,600 would stay in the sixth year, which is k = 5
  pub cap_from_k_6 : Apart (cells_premium_in both 5) 1_400 (capped_from_six both 5) 1_600
  -- death plus lapse: of one contract 0.565 times 0.9 goes on, not 1 less 0.435 less 0.1
  pub death_plus_lapse : Apart (in_force rounded (man_in 0) 1) 508_500_000 (next_by_sum (man_in 0) 0) 465_000_000
  -- costs of the capped premium: to claims of 1,100 comes a tenth of 1,600, not of 1,400
  pub costs_of_the_capped_premium : Apart (cells_outgo_in both 5) 1_260 (outgo_of_capped both 5) 1_240
  -- a lapse shift ended after five years: in setting 3 there stay 0.87 at k = 5 too, where in the base 0.9 do
  pub lapse_shift_ended : Apart ((man_in 3).persistency 5) 870_000_000 ((man_in 0).persistency 5) 900_000_000
  -- discounting in one step: 1,260 goes back to 1,235, and that to 1,210
  pub discounting_in_one_step :
      Apart (discounted_in both 2) 1_210 (two_years_in_one_step (trap_terms.divisor 2) (cells_outgo_in both 2)) 1_211
