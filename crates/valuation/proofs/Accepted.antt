-- What acceptance says: the group's number, the book, and the ranges of terms and cells that the distance asks. Assumes
-- nothing.
use mathlib.Core.Path.{◌≡◌, refl}
use mathlib.Core.List.{List, [], ◌∷◌, ◌++◌}
use mathlib.Core.Bool.{Bool, true, false, cond}
use Prim.Native.Nat.{ℕ, zero, suc, ◌+◌, ◌-◌, ◌*◌, ◌<◌, ◌≤◌}
use native.Mathlib.Omega.{arith}
use borrow.Author.Tests.{eqb-true, eqb-false, ne_eqb, ltb-true, leb-true}
use lib.Dec.{eqb}
use Rattle.le_bytes.specs.Bytes.{read_u32}
use Rattle.std.specs.Prelude.{Ok}
use Rattle.verdict.proofs.Verdicts.{need_true, then_left, then_right}
use Rattle.le_bytes.proofs.Ranges.{within_means}
use Rattle.book.specs.Layout.{last_class, chains, head_of, next_of, curve_place, mortality_place, most_rate}
use Rattle.book.specs.Cells.{first_chain, chains_of}
use Rattle.book.specs.Reading.{ChainFrom, Standing, ValidBook}
use Rattle.book.proofs.Valid.{valid, chain_next}
use Rattle.settings_decrements.specs.Decrements.{Decrements}
use Rattle.settings_outgo.proofs.Weights.{costs_most, claims_most}
use Rattle.valuation.specs.Steps.{Cell}
use Rattle.valuation.specs.Bounds.{GoodCell, GoodCells, GoodTerms}
use Rattle.valuation.specs.Portfolio.{mortality_of, cost_rate_of, divisor_of, NoRateBelowZero, one_less, cell_of}
use Rattle.valuation.specs.Portfolio.{links_from, chain_links, links_of, cells_of, group_cells, terms_of}
use Rattle.valuation.specs.Replies.{group_check}
use Rattle.valuation.proofs.Rows.{chain_standing, row_standing}
use Rattle.valuation.proofs.Members.{counted, links_counted, cells_append}

module _ (b : List ℕ) (setting g numbers n : ℕ) (e : group_check b setting g numbers ≡ Ok n) where
  pub group_setting : setting < 8
  unfolding group_check
  group_setting = ltb-true _ _ (need_true _ _ _ _ (then_left _ _ _ (then_left _ _ _ (then_left _ _ _ e))))

  pub group_table_lem : 200 ≤ numbers
  unfolding group_check
  group_table_lem = leb-true _ _ (need_true _ _ _ _ (then_right _ _ _ (then_left _ _ _ e)))

  pub group_range : (1 ≤ g) × (g ≤ 5)
  unfolding group_check
  group_range = within_means _ _ _ (need_true _ _ _ _ (then_right _ _ _ (then_left _ _ _ (then_left _ _ _ e))))

  pub group_valid : ValidBook 1 b
  unfolding group_check
  group_valid = valid 1 b n (then_right _ _ _ e)

pick_each : (P : ℕ → Type 0) (t : Bool) (x y : ℕ) → P x → P y → P (cond t x y)
pick_each P true x y p q = p
pick_each P false x y p q = q

-- the tables of an accepted book
module _ (b : List ℕ) (v : ValidBook 1 b) where
  divisor_range : (k : ℕ) → k < 50 → (990_000 ≤ divisor_of b k) × (divisor_of b k ≤ 1_200_000)
  unfolding divisor_of
  divisor_range k year =
      let rate = v.tables.curve (k - 1) (omega arith) in
      pick_each (λ d. (990_000 ≤ d) × (d ≤ 1_200_000)) (eqb k 0) _ _ (omega arith, omega arith)
      (omega arith, omega arith)

  pub divisor_low : (k : ℕ) → k < 50 → 990_000 ≤ divisor_of b k
  divisor_low k year = (divisor_range k year).0

  pub divisor_high : (k : ℕ) → k < 50 → divisor_of b k ≤ 1_200_000
  divisor_high k year = (divisor_range k year).1

  -- no rate is below zero exactly where no divisor is below 1,000,000, the bytes of a rate making a number of 32 bits
  pub divisor_ordinary : NoRateBelowZero b → (k : ℕ) → k < 50 → 1_000_000 ≤ divisor_of b k
  unfolding divisor_of
  divisor_ordinary ordinary k year =
      let rate = v.tables.curve (k - 1) (omega arith) in
      let sign = ordinary (k - 1) (omega arith) in
      pick_each (λ d. 1_000_000 ≤ d) (eqb k 0) _ _ (omega arith) (omega arith)

  pub ordinary_divisor : ((j : ℕ) → j < 49 → read_u32 b (curve_place + 4 * j) < 4_294_967_296)
      → ((k : ℕ) → k < 50 → 1_000_000 ≤ divisor_of b k) → NoRateBelowZero b
  unfolding divisor_of
  ordinary_divisor bits least j year =
      let rate = v.tables.curve j year in
      let small = bits j year in
      let before : suc j - 1 ≡ j = omega arith in
      let divisor = rw (ne_eqb (suc j) 0 (λ z. absurd (omega arith)), before) at (least (suc j) (omega arith)) in
      omega arith

  pub cost_high : (g : ℕ) → 1 ≤ g → g ≤ 5 → cost_rate_of b g ≤ most_rate
  unfolding cost_rate_of
  cost_high g lo hi = v.tables.cost (g - 1) (omega arith)

  pub mortality_high : (sex class : ℕ) → sex ≤ 1 → class ≤ last_class 1 → mortality_of b sex class ≤ most_rate
  unfolding mortality_of
  mortality_high sex class two old =
      let place : mortality_place + 484 * sex + 4 * class ≡ mortality_place + 4 * (121 * sex + class) = omega arith in
      rw place (v.tables.mortality (121 * sex + class) (omega arith))

-- the terms, with no divisor below D
pub good_terms : (D : ℕ) (b : List ℕ) (setting g : ℕ) → ValidBook 1 b → 1 ≤ g → g ≤ 5
    → ((k : ℕ) → k < 50 → D ≤ divisor_of b k)
    → GoodTerms D (terms_of b setting g)
unfolding terms_of
good_terms D b setting g v lo hi least = record {
  claims_weight-most = λ k year. claims_most setting k;
  cost_weight-most = λ k year. costs_most setting k;
  cost_rate_most = cost_high b v g lo hi;
  divisor_least = λ k later year. least k year;
}

-- the cells
pub chains_few : (g : ℕ) → g ≤ 5 → first_chain g + chains_of g ≤ chains
chains_few g hi = by_group (eqb g 1)
  where
    by_group : (t : Bool) → cond t 0 (2 * g + 2) + cond t 6 2 ≤ chains
    by_group true = omega arith
    by_group false = omega arith

pub one_less_most : (rate weight : ℕ) → one_less rate weight ≤ 1_000_000_000
unfolding one_less
one_less_most rate weight = omega arith

good_append : (cs ds : List Cell) → GoodCells cs → GoodCells ds → GoodCells (cs ++ ds)
good_append [] ds p q = q
good_append (c ∷ cs) ds p q = (p.0, good_append cs ds p.1 q)

module _ (b : List ℕ) (w : Decrements) where
  pub good_cell : (k i : ℕ) → Standing b (last_class 1) k i → GoodCell (cell_of b w i)
  unfolding cell_of
  good_cell k i s = record {
    survival_most = λ j year. one_less_most _ _;
    persistency_most = λ j year. one_less_most _ _;
    premium_most = λ j year. (row_standing b k i s _).0.premium;
    claims_most = λ j year. (row_standing b k i s _).0.claims;
  }

  counted_good : (k left i : ℕ) → ChainFrom b (last_class 1) k left i → left ≤ last_class 1
      → GoodCells (cells_of b w (counted b left i))
  unfolding cells_of counted
  counted_good k zero i h fits = (good_cell k i (chain_standing b k zero i h fits), tt)
  counted_good k (suc left) i h fits = (
    good_cell k i (chain_standing b k (suc left) i h fits),
    counted_good k left (next_of b i) (chain_next b (last_class 1) k (suc left) left i (omega arith) h) (omega arith),
  )

  module _ (v : ValidBook 1 b) where
    chain_good : (k : ℕ) → k < chains → GoodCells (cells_of b w (chain_links b k))
    unfolding cells_of links_from
    chain_good k few = by_head (eqb (head_of b k) 0) refl
      where
        by_head : (t : Bool) → eqb (head_of b k) 0 ≡ t → GoodCells (cells_of b w (chain_links b k))
        by_head true e = rw (eqb-true (head_of b k) 0 e) tt
        by_head false e =
            let h = v.chain k few (eqb-false _ _ e) in
            rw (links_counted b k _ (head_of b k) (last_class 1 + 1) h (omega arith))
            (counted_good k _ (head_of b k) h (omega arith))

    chains_good : (left k : ℕ) → k + left ≤ chains → GoodCells (cells_of b w (links_of b k left))
    unfolding cells_of links_of
    chains_good zero k few = tt
    chains_good (suc left) k few =
        rw (cells_append b w (chain_links b k) (links_of b (k + 1) left))
        (good_append (cells_of b w (chain_links b k)) (cells_of b w (links_of b (k + 1) left))
        (chain_good k (omega arith))
        (chains_good left (k + 1) (omega arith)))

  pub good_cells : (g : ℕ) → ValidBook 1 b → 1 ≤ g → g ≤ 5 → GoodCells (group_cells b w g)
  good_cells g v lo hi = chains_good v (chains_of g) (first_chain g) (chains_few g hi)
