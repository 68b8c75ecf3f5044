-- The figures of an accepted book: no premium has more than 15 digits, and no outgo more than 16. Assumes nothing.
use mathlib.Core.Path.{refl}
use mathlib.Core.Bool.{Bool, true, false}
use mathlib.Core.List.{List}
use Prim.Native.Nat.{ℕ, zero, suc, ◌+◌, ◌*◌, ◌^◌, ◌≤◌, ◌<◌}
use native.Mathlib.Nat.{mul-le-mul, div-le_of_le-mul, le_trans}
use native.Mathlib.Omega.{arith}
use lib.Dec.{leb, eqb}
use lib.ListN.{replicate}
use Rattle.lists.specs.AtMost.{AtMost}
use Rattle.lists.proofs.AtMost.{most_higher, most_replicate}
use Rattle.book.specs.Cells.{first_chain, chains_of}
use Rattle.book.specs.Reading.{ValidBook}
use Rattle.settings_decrements.specs.Decrements.{decrements_of}
use Rattle.settings_decrements.specs.Decrements.{Decrements}
use Rattle.settings.proofs.Weights.{pick_le}
use Rattle.valuation.specs.Arithmetic.{rounded}
use Rattle.valuation.specs.Steps.{Cell, Terms, premium_sum, claims_sum, outgo, capped_if, capped, counted_premium}
use Rattle.valuation.specs.Bounds.{GoodTerms}
use Rattle.valuation.specs.Portfolio.{chain_links, links_of, group_links, group_cells, terms_of}
use Rattle.valuation.proofs.Accepted.{chains_few, divisor_low, good_terms}
use Rattle.cell.specs.States.{premium_at, claims_at}
use Rattle.cell.proofs.Agreement.{premium_at_le, claims_at_le}
use Rattle.cell_projection.specs.Tables.{added_all}
use Rattle.group_projection.proofs.Adding.{Small, sum_over, added_append, sum_from_zero, links_most}
use Rattle.group_projection.proofs.Adding.{premium_sum_is, claims_sum_is}

-- 121 classes a chain, 6 chains, and 1,000,000,000,000 a cell
abbrev most_sum : ℕ
most_sum = 726_000_000_000_000

module _ (b : List ℕ) (v : ValidBook 1 b) where
  module _ (f : ℕ → ℕ → ℕ) (small : Small f b) where
    chains_most : (left k : ℕ) {m : ℕ} {t : List ℕ} → k + left ≤ 14 → AtMost m 500 t
        → AtMost (m + 121_000_000_000_000 * left) 500 (added_all f (links_of b k left) t)
    unfolding links_of added_all
    chains_most zero k few a = most_higher a (omega arith)
    chains_most (suc left) k {t = t} few a =
        rw (added_append f (chain_links b k) (links_of b (k + 1) left) t)
        (most_higher (chains_most left (k + 1) (omega arith) (links_most f b small k (omega arith) v a)) (omega arith))

    group_most : (g k : ℕ) → g ≤ 5 → k < 500 → sum_over (λ i. f i k) (group_links b g) ≤ most_sum
    group_most g k hi year =
        let few : chains_of g ≤ 6 = pick_le (eqb g 1) 6 (omega arith) (omega arith) in
        omega (
          arith,
          sum_from_zero f (group_links b g) (added_all f (group_links b g) (replicate 500 0)) refl k year,
          (chains_most (chains_of g) (first_chain g) (chains_few g hi) (most_replicate 500 0)).each k year,
        )

  module _ (w : Decrements) (g k : ℕ) (hi : g ≤ 5) (year : k < 50) where
    premium_most : premium_sum rounded (group_cells b w g) k ≤ most_sum
    premium_most =
        rw (← premium_sum_is b w k (group_links b g))
        (group_most (premium_at b w) (λ c i h s. premium_at_le b w c i s) g k hi (omega arith))

    claims_most : claims_sum rounded (group_cells b w g) k ≤ most_sum
    claims_most =
        rw (← claims_sum_is b w k (group_links b g))
        (group_most (claims_at b w) (λ c i h s. claims_at_le b w c i s) g k hi (omega arith))

module _ (t : Terms) (cs : List Cell) (k : ℕ) where
  -- the cap never raises a premium
  counted_le : counted_premium rounded t cs k ≤ premium_sum rounded cs k
  unfolding counted_premium capped capped_if
  counted_le = by_year (leb 5 k)
    where
      by_year : (late : Bool)
          → capped_if rounded late (premium_sum rounded cs k) (outgo rounded t cs k) ≤ premium_sum rounded cs k
      by_year true = omega arith
      by_year false = omega arith

  -- claims at 1,050 thousandths, and the whole premium at 1,200
  outgo_le : (D : ℕ) → GoodTerms D t → k < 50 → premium_sum rounded cs k ≤ most_sum → claims_sum rounded cs k ≤ most_sum
      → outgo rounded t cs k ≤ 1_633_500_000_000_000
  unfolding outgo
  outgo_le D good year p c =
      let claims : rounded.part (claims_sum rounded cs k) (t.claims_weight k) 1000 ≤ 762_300_000_000_000 =
      div-le_of_le-mul 1000 (le_trans (mul-le-mul c (good.claims_weight-most k year)) (omega arith)) in
      let rate = mul-le-mul good.cost_rate_most (good.cost_weight-most k year) in
      let weight = t.cost_rate * t.cost_weight k in
      let costs : rounded.part (premium_sum rounded cs k) weight 1_000_000_000 ≤ 871_200_000_000_000 =
      div-le_of_le-mul 1_000_000_000 (le_trans (mul-le-mul p rate) (omega arith)) in
      omega (arith, claims, costs)

module _ (b : List ℕ) (v : ValidBook 1 b) (setting g k : ℕ) (lo : 1 ≤ g) (hi : g ≤ 5) (year : k < 50) where
  pub premium_digits :
      counted_premium rounded (terms_of b setting g) (group_cells b (decrements_of b setting) g) k < 10 ^ 15
  premium_digits =
      let w = decrements_of b setting in
      omega (arith, counted_le (terms_of b setting g) (group_cells b w g) k, premium_most b v w g k hi year)

  pub outgo_digits : outgo rounded (terms_of b setting g) (group_cells b (decrements_of b setting) g) k < 10 ^ 16
  outgo_digits =
      let w = decrements_of b setting in
      omega (
        arith,
        outgo_le (terms_of b setting g) (group_cells b w g) k 990_000
            (good_terms 990_000 b setting g v lo hi (divisor_low b v)) year
            (premium_most b v w g k hi year) (claims_most b v w g k hi year),
      )
