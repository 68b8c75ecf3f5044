-- A projection over the rows of a chain is that of the cell of its record: what it adds, and its years. Assumes
-- nothing.
use mathlib.Core.Path.{◌≡◌, refl, ◌∙◌}
use mathlib.Core.Bool.{Bool, true, false, cond}
use mathlib.Core.List.{List}
use Prim.Native.Nat.{ℕ, zero, suc, ◌+◌, ◌-◌, ◌*◌, ◌/◌, ◌%◌, ◌<◌, ◌≤◌}
use native.Mathlib.Omega.{arith}
use lib.Dec.{eqb}
use Rattle.std.specs.Prelude.{Option}
use Rattle.book.specs.Layout.{class_of, field_of, count_offset}
use Rattle.book.specs.Reading.{Standing}
use Rattle.settings_decrements.specs.Decrements.{decrements_of}
use Rattle.valuation.specs.Portfolio.{row_at, cell_of}
use Rattle.rate_table.specs.Rows.{RowsOf}
use Rattle.cell.specs.States.{cell_in, Projectable, premium_by, claims_by, premium_at, claims_at}
use Rattle.cell.proofs.Agreement.{projectable, inforce_same, premium_same, claims_same, premium_at_le, claims_at_le}
use Rattle.cell_projection.specs.Tables.{amount_by, amount_at, amount_in, chosen, Among, added}
use Rattle.cell_projection.specs.Ends.{first_zero, years_in_force}
use Rattle.cell_projection.proofs.Years.{added_same, amount_each, amount_premium, amount_claims}
use Rattle.cell_projection.proofs.Single.{chosen_same, chosen_le, chosen_at}

-- a search of two functions that agree
first_same : (f g : ℕ → ℕ) (left k : ℕ) → ((j : ℕ) → j < k + left → f j ≡ g j)
    → first_zero f k left ≡ first_zero g k left
unfolding first_zero
first_same f g zero k h = refl
first_same f g (suc left) k h = rw (h k (omega arith), first_same f g left (k + 1) (λ j l. h j (omega arith)))

module _ (b : List ℕ) (chain i : ℕ) (s : Standing b 120 chain i) (t : List ℕ) (rows : RowsOf b chain i t) (own j n : ℕ)
    (fits : own ≤ 120 - class_of b i) (record_is : j ≡ row_at b i own) (count-is : n ≡ field_of b j count_offset) where
  pub projectable_here : Projectable t own n
  projectable_here = rw (count-is, record_is) (projectable b chain i s t rows own fits)

  amount_same : (m : ℕ) → m < 500 → amount_by (cell_in t own n) m ≡ amount_at b j m
  unfolding amount_by amount_at premium_at claims_at
  amount_same m h = by (eqb (m % 2) 0)
    where
      premiums : premium_by (cell_in t own n (m % 10 / 2)) (m / 10)
          ≡ premium_by (cell_of b (decrements_of b (m % 10 / 2)) j) (m / 10)
      premiums = rw (count-is, record_is)
          (premium_same b chain i s t rows own fits (m % 10 / 2) (omega arith) (m / 10) (omega arith))

      claims : claims_by (cell_in t own n (m % 10 / 2)) (m / 10)
          ≡ claims_by (cell_of b (decrements_of b (m % 10 / 2)) j) (m / 10)
      claims = rw (count-is, record_is)
          (claims_same b chain i s t rows own fits (m % 10 / 2) (omega arith) (m / 10) (omega arith))

      by : (even : Bool)
          → cond even (premium_by (cell_in t own n (m % 10 / 2)) (m / 10))
          (claims_by (cell_in t own n (m % 10 / 2)) (m / 10))
          ≡ cond even (premium_by (cell_of b (decrements_of b (m % 10 / 2)) j) (m / 10))
          (claims_by (cell_of b (decrements_of b (m % 10 / 2)) j) (m / 10))
      by true = premiums
      by false = claims

  pub amounts_added : (which : Option ℕ) (u : List ℕ)
      → added (chosen which (amount_by (cell_in t own n))) 500 u ≡ added (amount_in b which j) 500 u
  unfolding amount_in
  amounts_added which u =
      added_same _ _ 500 u (λ m h. chosen_same (amount_by (cell_in t own n)) which (amount_at b j) m (amount_same m h))

  -- the years of a projection are those of the record's cell in that setting
  pub years_same : (setting : ℕ) → setting < 8
      → years_in_force (cell_in t own n setting) ≡ years_in_force (cell_of b (decrements_of b setting) j)
  unfolding years_in_force
  years_same setting h =
      rw (count-is, record_is)
      (first_same _ _ 50 0 (λ k l. inforce_same b chain i s t rows own fits setting h k (omega arith)))

-- what the cell of a linked record adds
pub amount_at_le : (b : List ℕ) (chain i : ℕ) → Standing b 120 chain i → (j : ℕ) → amount_at b i j ≤ 1_000_000_000_000
unfolding amount_at premium_at claims_at
amount_at_le b chain i s j =
    amount_each (λ x. x ≤ 1_000_000_000_000) _ j (premium_at_le b (decrements_of b (j % 10 / 2)) chain i s (j / 10))
    (claims_at_le b (decrements_of b (j % 10 / 2)) chain i s (j / 10))

pub amount_in_le : (b : List ℕ) (which : Option ℕ) (chain i : ℕ) → Standing b 120 chain i → (j : ℕ)
    → amount_in b which i j ≤ 1_000_000_000_000
unfolding amount_in
amount_in_le b which chain i s j = chosen_le (amount_at b i) which j _ (amount_at_le b chain i s j)

-- the numbers of a projection in a year
module _ (b : List ℕ) (which : Option ℕ) (k s i : ℕ) (among : Among which s) (h : s < 5) (year : k < 50) where
  pub premium_column_at : amount_in b which i (10 * k + 2 * s) ≡ premium_at b (decrements_of b s) i k
  unfolding amount_in amount_at premium_at
  premium_column_at =
      chosen_at (amount_at b i) which s (10 * k + 2 * s) among (omega arith) (omega arith)
      ∙ amount_premium (λ x. cell_of b (decrements_of b x) i) k s h

  pub claims_column_at : amount_in b which i (10 * k + 2 * s + 1) ≡ claims_at b (decrements_of b s) i k
  unfolding amount_in amount_at claims_at
  claims_column_at =
      chosen_at (amount_at b i) which s (10 * k + 2 * s + 1) among (omega arith) (omega arith)
      ∙ amount_claims (λ x. cell_of b (decrements_of b x) i) k s h
