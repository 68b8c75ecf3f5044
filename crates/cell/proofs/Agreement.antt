-- A cell that is projected over the rows of its chain is the valuation's cell of its record, for the fifty years; and
-- what such a cell adds is bounded in every year. Assumes nothing.
use mathlib.Core.Path.{◌≡◌, refl, ap, ◌∙◌}
use mathlib.Core.List.{List}
use mathlib.Core.Bool.{Bool, true, false}
use Prim.Native.Nat.{ℕ, zero, suc, ◌+◌, ◌-◌, ◌≤◌, ◌<◌}
use native.Mathlib.Nat.{add-zero, add-suc, le_trans, mul-le-mul, div-le_of_le-mul}
use native.Mathlib.Omega.{arith}
use lib.Dec.{ltb}
use Rattle.book.specs.Layout.{chain_sex, sex_of, class_of, field_of, count_offset, lapse_offset}
use Rattle.book.specs.Reading.{Standing}
use Rattle.settings.specs.Settings.{weight_of}
use Rattle.settings_decrements.specs.Decrements.{mortality_weight, decrements_of, mortality_in, lapse_in}
use Rattle.settings_decrements.specs.Decrements.{Decrements}
use Rattle.settings_columns.specs.Columns.{same_mortality, survival_column, persistency_column}
use Rattle.settings.proofs.Weights.{each_setting}
use Rattle.settings_columns.proofs.Held.{survival_low, persistency_low}
use Rattle.valuation.specs.Arithmetic.{rounded}
use Rattle.valuation.specs.Steps.{in_force, cell_premium, cell_claims}
use Rattle.valuation.specs.Portfolio.{mortality_of, one_less, onward, row_at, cell_of}
use Rattle.valuation.proofs.Rows.{row_standing}
use Rattle.rate_table.specs.Rows.{rate, rate_of, RowOf, RowsOf}
use Rattle.rate_table.proofs.Order.{row_ordered}
use Rattle.cell.specs.States.{cell_in, Projectable, premium_by, claims_by, premium_at, claims_at}
use Rattle.cell.proofs.Cells.{share_le}

-- the record of a later year, from that of a year between
pub row_sum : (b : List ℕ) (i j k : ℕ) → row_at b i (j + k) ≡ row_at b (row_at b i j) k
unfolding row_at
row_sum b i j zero = ap (row_at b i) (add-zero j)
row_sum b i j (suc k) = rw (add-suc j k) (ap (onward b) (row_sum b i j k))

-- the column that holds in a year of a setting has the rate at the setting's weight of that year
module _ (b : List ℕ) (sex i k : ℕ) where
  Lives : ℕ → Type 0
  Lives setting =
      rate_of b sex i (survival_column setting k) ≡ one_less (mortality_of b sex (class_of b i))
      (mortality_in (decrements_of b setting) sex k)

  column_survival : (setting : ℕ) → setting < 8 → Lives setting
  unfolding Lives rate_of survival_column same_mortality decrements_of mortality_weight weight_of
  column_survival = by (ltb k 5) refl
    where
      by : (early : Bool) → ltb k 5 ≡ early → (setting : ℕ) → setting < 8 → Lives setting
      by true e = each_setting Lives (rw e) (rw e) (rw e) (rw e) (rw e) (rw e) (rw e) (rw e)
      by false e = each_setting Lives (rw e) (rw e) (rw e) (rw e) (rw e) (rw e) (rw e) (rw e)

  Stays : ℕ → Type 0
  Stays setting =
      rate_of b sex i (persistency_column setting k) ≡ one_less (field_of b i lapse_offset) (lapse_in
      (decrements_of b setting) k)

  column_persistency : (setting : ℕ) → setting < 8 → Stays setting
  unfolding Stays rate_of persistency_column decrements_of weight_of
  column_persistency = by (ltb k 5) refl
    where
      by : (early : Bool) → ltb k 5 ≡ early → (setting : ℕ) → setting < 8 → Stays setting
      by true e =
          each_setting Stays (rw (e, lapse_in)) (rw (e, lapse_in)) (rw (e, lapse_in)) (rw (e, lapse_in))
          (rw (e, lapse_in)) (rw (e, lapse_in)) (rw (e, lapse_in)) (rw (e, lapse_in))
      by false e =
          each_setting Stays (rw (e, lapse_in)) (rw (e, lapse_in)) (rw (e, lapse_in)) (rw (e, lapse_in))
          (rw (e, lapse_in)) (rw (e, lapse_in)) (rw (e, lapse_in)) (rw (e, lapse_in))

module _ (b : List ℕ) (chain i : ℕ) (s : Standing b 120 chain i) (t : List ℕ) (rows : RowsOf b chain i t) (own : ℕ)
    (fits : own ≤ 120 - class_of b i) where
  -- the cell's own record, and its contracts
  abbrev record_of : ℕ
  record_of = row_at b i own

  abbrev contracts : ℕ
  contracts = field_of b record_of count_offset

  here : (k : ℕ) → k < 50 → RowOf b (chain_sex chain) (row_at b record_of k) t (own + k)
  here k h = rw (row_sum b i own k) at (rows (own + k) (omega (arith, s.0.class_high)))

  pub projectable : Projectable t own contracts
  projectable = record {
    rows = λ k h. (here k h).ready;
    ordered = λ k h. row_ordered _ _ _ t (own + k) (here k h);
    fits = omega arith;
    few = (row_standing b chain i s own).0.count;
  }

  sex_is : sex_of b record_of ≡ chain_sex chain
  sex_is = (row_standing b chain i s own).0.sex

  module _ (setting : ℕ) (known : setting < 8) where
    survival_is : (k : ℕ) → k < 50
        → rate t (own + k) (survival_column setting k) ≡ one_less
        (mortality_of b (sex_of b record_of) (class_of b (row_at b record_of k)))
        (mortality_in (decrements_of b setting) (sex_of b record_of) k)
    unfolding Lives
    survival_is k h =
        rw sex_is ((here k h).rates _ (omega (arith, survival_low setting k)) ∙ column_survival b (chain_sex chain)
        (row_at b record_of k) k setting known)

    persistency_is : (k : ℕ) → k < 50
        → rate t (own + k) (persistency_column setting k) ≡ one_less (field_of b (row_at b record_of k) lapse_offset)
        (lapse_in (decrements_of b setting) k)
    unfolding Stays
    persistency_is k h =
        (here k h).rates _ (omega (arith, persistency_low setting k)) ∙ column_persistency b (chain_sex chain)
        (row_at b record_of k) k setting known

    pub inforce_same : (k : ℕ) → k ≤ 50
        → in_force rounded (cell_in t own contracts setting) k ≡ in_force rounded
        (cell_of b (decrements_of b setting) record_of) k
    unfolding in_force cell_in cell_of
    inforce_same zero h = refl
    inforce_same (suc k) h =
        rw (inforce_same k (omega arith), survival_is k (omega arith), persistency_is k (omega arith))

    pub premium_same : (k : ℕ) → k < 50
        → premium_by (cell_in t own contracts setting) k ≡ premium_at b (decrements_of b setting) record_of k
    unfolding premium_at premium_by cell_premium cell_in cell_of rate_of
    premium_same k h = rw (inforce_same k (omega arith), (here k h).rates 6 (omega arith))

    pub claims_same : (k : ℕ) → k < 50
        → claims_by (cell_in t own contracts setting) k ≡ claims_at b (decrements_of b setting) record_of k
    unfolding claims_at claims_by cell_claims cell_in cell_of rate_of
    claims_same k h = rw (inforce_same k (omega arith), (here k h).rates 7 (omega arith))

one_less_le : (rate weight : ℕ) → one_less rate weight ≤ 1_000_000_000
unfolding one_less
one_less_le rate weight = omega arith

-- what the cell of a linked record adds in any year
module _ (b : List ℕ) (w : Decrements) (chain i : ℕ) (s : Standing b 120 chain i) where
  inforce_le : (k : ℕ) → in_force rounded (cell_of b w i) k ≤ 100_000_000_000_000
  unfolding in_force cell_of
  inforce_le zero = omega (arith, s.0.count)
  inforce_le (suc k) =
      le_trans (share_le _ _ (one_less_le _ (lapse_in w k)))
      (le_trans (share_le _ _ (one_less_le _ (mortality_in w (sex_of b i) k))) (inforce_le k))

  pub premium_at_le : (k : ℕ) → premium_at b w i k ≤ 1_000_000_000_000
  unfolding premium_at premium_by cell_premium cell_of
  premium_at_le k =
      div-le_of_le-mul 1_000_000_000
      (le_trans (mul-le-mul (inforce_le k) (row_standing b chain i s k).0.premium) (omega arith))

  pub claims_at_le : (k : ℕ) → claims_at b w i k ≤ 1_000_000_000_000
  unfolding claims_at claims_by cell_claims cell_of
  claims_at_le k =
      div-le_of_le-mul 1_000_000_000
      (le_trans (mul-le-mul (inforce_le k) (row_standing b chain i s k).0.claims) (omega arith))
