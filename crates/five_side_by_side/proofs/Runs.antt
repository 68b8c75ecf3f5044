-- Laws of the years side by side: what a run over them keeps from year to year, and two runs one after the other.
-- Assumes nothing.
use mathlib.Core.Path.{◌≡◌, refl, ◌∙◌}
use mathlib.Core.Bool.{Bool, true, false}
use mathlib.Core.List.{List}
use Prim.Native.Nat.{ℕ, ◌+◌, ◌*◌, ◌≤◌, ◌<◌}
use native.Mathlib.Omega.{arith}
use borrow.Author.Tests.{ltb-true, ltb-false}
use lib.Dec.{ltb}
use Rattle.lists.specs.AtMost.{AtMost}
use Rattle.cell.specs.declared.Cell.{Cell}
use Rattle.cell.specs.States.{cell_in, Projectable}
use Rattle.cell_projection.specs.Tables.{amount_by, added, late}
use Rattle.cell_projection.proofs.Years.{added_most, late_low, late_high, late_start, joined}
use Rattle.cell_projection.proofs.Ends.{going_start, going_on}
use Rattle.cell_projection.proofs.Single.{amount_le}
use Rattle.five_cells.specs.Five.{start_of, FiveReady, AllInForce, next_five, ten_more}
use Rattle.five_cells.specs.Five.{FiveCells}
use Rattle.five_cells.proofs.Fives.{five_start, five_next, all_on, ten_added, five_ready}
use Rattle.five_side_by_side.specs.SideBySide.{Reached, ProjectedTo}
use Rattle.five_side_by_side.specs.declared.Stop.{Stop}

-- the start
pub reached_start : (t : List ℕ) (r n : ℕ) (c : Cell) → c ≡ record { row = r; inforce = n * 1_000_000_000 }
    → Reached t r n 0
    (record { base = c; mortality_up = c; mortality_down = c; lapse_up = c; lapse_down = c })
reached_start t r n c e = record { states = five_start t r n c e; going = λ s h. going_start (cell_in t r n s) }

-- f from number a on is bounded as f is
late_le : (f : ℕ → ℕ) (z a : ℕ) → ((j : ℕ) → j < 500 → f j ≤ z) → (j : ℕ) → j < 500 → late a f j ≤ z
late_le f z a h j l = by (ltb j a) refl
  where
    by : (x : Bool) → ltb j a ≡ x → late a f j ≤ z
    by true e = omega (arith, late_low a f j (ltb-true j a e))
    by false e = omega (arith, late_high a f j (ltb-false j a e), h j l)

-- What a run over the years from m on keeps in year k: all five have come there, and the table u has become v.
abbrev pub Run : List ℕ → ℕ → ℕ → ℕ → ℕ → FiveCells → List ℕ → List ℕ → Type 0
Run t r n m k cells u v =
    (m ≤ k) × (k ≤ 50) × Reached t r n k cells × (v ≡ added (late (10 * m) (amount_by (cell_in t r n))) (10 * k) u)

module _ (t : List ℕ) (r n m k : ℕ) (cells : FiveCells) (u v : List ℕ) (run : Run t r n m k cells u v) where
  -- the next year can be computed
  pub run_ready : Projectable t r n → k < 50 → FiveReady t cells
  run_ready s h = rw run.2.states (five_ready t r n s k h)

  pub run_capacity : Projectable t r n → {most : ℕ} → AtMost most 500 u → AtMost (most + 1_000_000_000_000) 500 v
  run_capacity s a =
      rw run.3 (added_most _ 1_000_000_000_000 (10 * k)
      (λ i l. late_le _ _ (10 * m) (amount_le t r n s) i (omega (arith, run.1))) a)

  -- and it is then computed
  pub run_more : k < 50 → AllInForce cells → (cells' : FiveCells) (v' : List ℕ) → cells' ≡ next_five t k cells
      → v' ≡ ten_more t k cells v → Run t r n m (k + 1) cells' u v'
  run_more h all cells' v' ec ev = (
    omega (arith, run.0),
    omega (arith, h),
    record {
      states = ec ∙ rw run.2.states (five_next t r n k);
      going = λ s l. going_on (cell_in t r n s) k h (all_on t r n k h cells run.2.states all s l)
          (run.2.going s l);
    },
    ev ∙ rw run.2.states
        (ten_added t r n k _ (λ j l. late_high (10 * m) _ j (omega (arith, run.0, l))) v u run.3),
  )

-- year 0, in which contracts are in force
module _ (t : List ℕ) (r n : ℕ) (some : 0 < n) where
  start_in_force : AllInForce (start_of r n)
  start_in_force = record {
    base = omega arith;
    mortality_is_up = omega arith;
    mortality_is_down = omega arith;
    lapse_up = omega arith;
    lapse_down = omega arith;
  }

  pub first_run : (cells : FiveCells) (u v : List ℕ) → cells ≡ next_five t 0 (start_of r n)
      → v ≡ ten_more t 0 (start_of r n) u → Run t r n 0 1 cells u v
  first_run cells u v ec ev =
      run_more t r n 0 0 (start_of r n) u u (omega arith, omega arith, reached_start t r n _ refl, late_start _ _ _)
      (omega arith) start_in_force cells v ec ev

-- one run, and then what comes after it
pub run_then : (t : List ℕ) (r n m to : ℕ) (cells : FiveCells) (s : Stop) (u v w : List ℕ) → Run t r n 0 m cells u v
    → ProjectedTo t r n m to s v w → ProjectedTo t r n 0 to s u w
run_then t r n m to cells s u v w run e = record {
  sums = joined _ m s.k u v w e.since run.3 e.sums;
  since = omega arith;
  most = e.most;
  reached = e.reached;
}
