-- More deaths and more lapses leave the least in force: where they leave something, so do all five projections. Assumes
-- nothing.
use mathlib.Core.Path.{◌≡◌, refl, ap}
use mathlib.Core.Bool.{Bool, true, false}
use mathlib.Core.List.{List}
use Prim.Native.Nat.{ℕ, zero, suc, ◌+◌, ◌*◌, ◌/◌, ◌≤◌, ◌<◌}
use native.Mathlib.Nat.{mul-le-mul}
use native.Mathlib.Omega.{arith}
use lib.Dec.{ltb}
use Rattle.settings.specs.Settings.{weight_of}
use Rattle.settings_columns.specs.Columns.{same_mortality, survival_column, persistency_column}
use Rattle.valuation.specs.Arithmetic.{rounded}
use Rattle.valuation.specs.Steps.{Cell, in_force}
use Rattle.rate_table.specs.Rows.{rate, RowOrdered}
use Rattle.cell.specs.States.{cell_in, state_in, Projectable}
use Rattle.five_cells.specs.Five.{five_in, LeastInForce, AllInForce}
use Rattle.five_cells.specs.Five.{FiveCells}

share_mono : (a b x y : ℕ) → a ≤ b → x ≤ y → a * x / 1_000_000_000 ≤ b * y / 1_000_000_000
share_mono a b x y h g = omega (arith, mul-le-mul h g)

-- with as many contracts, and at rates that are nowhere greater, nowhere more is in force
module _ (c d : Cell) (same : c.count ≡ d.count) (m : ℕ) (survives : (k : ℕ) → k < m → c.survival k ≤ d.survival k)
    (persists : (k : ℕ) → k < m → c.persistency k ≤ d.persistency k) where
  in_force_le : (k : ℕ) → k ≤ m → in_force rounded c k ≤ in_force rounded d k
  unfolding in_force
  in_force_le zero h = omega (arith, same)
  in_force_le (suc k) h =
      share_mono _ _ _ _ (share_mono _ _ _ _ (in_force_le k (omega arith)) (survives k (omega arith)))
      (persists k (omega arith))

module _ (t : List ℕ) (r n : ℕ) (s : Projectable t r n) where
  -- what lives on and what stays, where the table orders them
  module _ (k : ℕ) (h : k < 50) where
    o : RowOrdered t (r + k)
    o = s.ordered k h

    Survives : ℕ → ℕ → Type 0
    Survives a b = rate t (r + k) (survival_column a k) ≤ rate t (r + k) (survival_column b k)

    Persists : ℕ → ℕ → Type 0
    Persists a b = rate t (r + k) (persistency_column a k) ≤ rate t (r + k) (persistency_column b k)

    mortality_up_survives : Survives 1 0
    unfolding Survives survival_column same_mortality weight_of
    mortality_up_survives = by (ltb k 5) refl
      where
        by : (early : Bool) → ltb k 5 ≡ early → Survives 1 0
        by true e = rw e o.mortality_is_up
        by false e = rw e (omega arith)

    mortality_down_survives : Survives 0 2
    unfolding Survives survival_column same_mortality weight_of
    mortality_down_survives = by (ltb k 5) refl
      where
        by : (early : Bool) → ltb k 5 ≡ early → Survives 0 2
        by true e = rw e o.mortality_is_down
        by false e = rw e (omega arith)

    base_survives : (Survives 3 0) × (Survives 0 4)
    unfolding Survives survival_column same_mortality weight_of
    base_survives = by (ltb k 5) refl
      where
        by : (early : Bool) → ltb k 5 ≡ early → (Survives 3 0) × (Survives 0 4)
        by true e = (rw e (omega arith), rw e (omega arith))
        by false e = (rw e (omega arith), rw e (omega arith))

    lapses : (Persists 3 0) × (Persists 0 4)
    unfolding Persists persistency_column weight_of
    lapses = by (ltb k 5) refl
      where
        by : (early : Bool) → ltb k 5 ≡ early → (Persists 3 0) × (Persists 0 4)
        by true e = (rw e o.lapse_up, rw e o.lapse_down)
        by false e = (rw e o.lapse_up, rw e o.lapse_down)

    base_persists : (Persists 1 0) × (Persists 0 2)
    unfolding Persists persistency_column weight_of
    base_persists = by (ltb k 5) refl
      where
        by : (early : Bool) → ltb k 5 ≡ early → (Persists 1 0) × (Persists 0 2)
        by true e = (rw e (omega arith), rw e (omega arith))
        by false e = (rw e (omega arith), rw e (omega arith))

  -- so in every year
  Most : ℕ → ℕ → Type 0
  Most a b = (k : ℕ) → k ≤ 50 → in_force rounded (cell_in t r n a) k ≤ in_force rounded (cell_in t r n b) k

  ordered : (Most 1 0) × (Most 0 2) × (Most 0 4)
  unfolding Most Survives Persists cell_in
  ordered = (
    in_force_le (cell_in t r n 1) (cell_in t r n 0) refl 50 (λ k h. mortality_up_survives k h)
        (λ k h. (base_persists k h).0),
    in_force_le (cell_in t r n 0) (cell_in t r n 2) refl 50 (λ k h. mortality_down_survives k h)
        (λ k h. (base_persists k h).1),
    in_force_le (cell_in t r n 0) (cell_in t r n 4) refl 50 (λ k h. (base_survives k h).1) (λ k h. (lapses k h).1),
  )

  pub all_in_force : (k : ℕ) → k ≤ 50 → (c : FiveCells) → c ≡ five_in t r n k → LeastInForce c → AllInForce c
  unfolding Most five_in state_in
  all_in_force k h c e l =
      let base = ap (λ (x : FiveCells). x.base.inforce) e in
      let more = ap (λ (x : FiveCells). x.mortality_up.inforce) e in
      record {
        base = omega (arith, l.mortality_is_up, ordered.0 k h, base, more);
        mortality_is_up = l.mortality_is_up;
        mortality_is_down =
            omega (
              arith,
              l.mortality_is_up,
              ordered.0 k h,
              ordered.1 k h,
              ap
                  (λ (x : FiveCells). x.mortality_down.inforce) e,
              more,
            );
        lapse_up = l.lapse_up;
        lapse_down = omega (
          arith,
          l.mortality_is_up,
          ordered.0 k h,
          ordered.2 k h,
          ap (λ (x : FiveCells). x.lapse_down.inforce) e,
          more,
        );
      }
