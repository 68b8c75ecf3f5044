-- Laws of a cell's state over the rows of its chain: every state of a projection can go on, is the valuation's, and
-- what it adds is bounded.
-- Assumes nothing.
use mathlib.Core.Path.{◌≡◌, refl, ap, ◌∙◌}
use mathlib.Core.List.{List}
use Prim.Native.Nat.{ℕ, zero, suc, ◌+◌, ◌*◌, ◌/◌, ◌≤◌, ◌<◌}
use native.Mathlib.Nat.{add-zero, le_trans, mul-le-mul, mul-le-mul_left, div-le_of_le-mul}
use native.Mathlib.Numerals.{add-one}
use native.Mathlib.Omega.{arith}
use Rattle.settings_columns.specs.Columns.{survival_column, persistency_column, columns_of, survives_in, persists_in}
use Rattle.settings.specs.declared.ByPeriod.{ByPeriod}
use Rattle.settings_columns.specs.declared.Columns.{Columns}
use Rattle.settings_columns.proofs.Held.{survival_low, persistency_low, survives_is, persists_is}
use Rattle.valuation.specs.Arithmetic.{rounded}
use Rattle.valuation.specs.Steps.{in_force, cell_premium, cell_claims}
use Rattle.cell.specs.declared.Cell.{Cell}
use Rattle.cell.specs.States.{cell_in, Projectable, Ready, next_by, next_year, state_in, premium_in, claims_in}
use Rattle.cell.specs.States.{premium_by, claims_by}

-- a share of at most the whole is at most the amount
pub share_le : (x y : ℕ) → y ≤ 1_000_000_000 → x * y / 1_000_000_000 ≤ x
share_le x y h = div-le_of_le-mul 1_000_000_000 (omega (arith, mul-le-mul_left x h))

-- the share of what lives on can be taken further
pub share_bound : (x y m r : ℕ) → y ≤ 1_000_000_000 → x ≤ m → r ≡ x * y / 1_000_000_000 → r ≤ m
share_bound x y m r h k e = rw e (le_trans (share_le x y h) k)

-- what a state that can go on adds at most
module _ (t : List ℕ) (c : Cell) (r : Ready t c) where
  pub premium_in_le : premium_in t c ≤ 1_000_000_000_000
  premium_in_le = div-le_of_le-mul 1_000_000_000 (le_trans (mul-le-mul r.bound r.row.premium) (omega arith))

  pub claims_in_le : claims_in t c ≤ 1_000_000_000_000
  claims_in_le = div-le_of_le-mul 1_000_000_000 (le_trans (mul-le-mul r.bound r.row.claims) (omega arith))

-- the columns of a setting are those of its year k
module _ (setting k : ℕ) (columns : ByPeriod Columns) (e : columns ≡ columns_of setting) where
  pub held_low : (survives_in columns k ≤ 5) × (persists_in columns k ≤ 5)
  held_low = rw e (
    omega (arith, survives_is setting k, survival_low setting k),
    omega
        (arith, persists_is setting k, persistency_low setting k),
  )

  pub next_held : (t : List ℕ) (c r : Cell) → r ≡ next_by t (survives_in columns k) (persists_in columns k) c
      → r ≡ next_year t setting k c
  unfolding next_year
  next_held t c r h = h ∙ rw (e, survives_is setting k, persists_is setting k)

module _ (t : List ℕ) (r n setting : ℕ) where
  pub state_start : state_in t r n setting 0 ≡ record { row = r; inforce = n * 1_000_000_000 }
  unfolding state_in in_force cell_in
  state_start = ap (λ (x : ℕ). record { row = x; inforce = n * 1_000_000_000 }) (add-zero r)

  -- a year more
  pub state_next : (k : ℕ) → next_year t setting k (state_in t r n setting k) ≡ state_in t r n setting (k + 1)
  unfolding next_year state_in in_force cell_in
  state_next k =
      let e : (r + k) + 1 ≡ r + suc k = omega arith in
      rw (add-one k) (ap (λ (x : ℕ). record { row = x; inforce = in_force rounded (cell_in t r n setting) (suc k) }) e)

  -- what a state has in force and adds is what the valuation's cell has and adds
  pub inforce_is : (k : ℕ) → (state_in t r n setting k).inforce ≡ in_force rounded (cell_in t r n setting) k
  unfolding state_in
  inforce_is k = refl

  pub premium_is : (k : ℕ) → premium_in t (state_in t r n setting k) ≡ premium_by (cell_in t r n setting) k
  unfolding premium_by state_in cell_premium cell_in
  premium_is k = refl

  pub claims_is : (k : ℕ) → claims_in t (state_in t r n setting k) ≡ claims_by (cell_in t r n setting) k
  unfolding claims_by state_in cell_claims cell_in
  claims_is k = refl

  module _ (s : Projectable t r n) where
    -- what the valuation has in force is no more than the contracts
    inforce_le : (k : ℕ) → k ≤ 50 → in_force rounded (cell_in t r n setting) k ≤ 100_000_000_000_000
    unfolding in_force cell_in
    inforce_le zero h = omega (arith, s.few)
    inforce_le (suc k) h =
        let row = s.rows k (omega arith) in
        le_trans (share_le _ _ (row.shares (persistency_column setting k) (omega (arith, persistency_low setting k))))
        (le_trans (share_le _ _ (row.shares (survival_column setting k) (omega (arith, survival_low setting k))))
        (inforce_le k (omega arith)))

    -- every state of the valuation can go on
    pub state_ready : (k : ℕ) → k < 50 → Ready t (state_in t r n setting k)
    unfolding state_in
    state_ready k h = record { row = s.rows k h; fits = omega (arith, s.fits); bound = inforce_le k (omega arith) }

    -- what the cell adds in each of the fifty years
    pub premium_by_le : (k : ℕ) → k < 50 → premium_by (cell_in t r n setting) k ≤ 1_000_000_000_000
    premium_by_le k h = rw (← premium_is k) (premium_in_le t (state_in t r n setting k) (state_ready k h))

    pub claims_by_le : (k : ℕ) → k < 50 → claims_by (cell_in t r n setting) k ≤ 1_000_000_000_000
    claims_by_le k h = rw (← claims_is k) (claims_in_le t (state_in t r n setting k) (state_ready k h))
