-- Laws of the five projections side by side: every year's states can go on and are the valuation's, and so is what they
-- add. Assumes nothing.
use mathlib.Core.Path.{◌≡◌, refl, sym, ap, ◌∙◌}
use mathlib.Core.List.{List}
use Prim.Native.Nat.{ℕ, ◌+◌, ◌*◌, ◌≤◌, ◌<◌}
use native.Mathlib.Omega.{arith}
use Rattle.valuation.specs.Arithmetic.{rounded}
use Rattle.valuation.specs.Steps.{in_force}
use Rattle.cell.specs.declared.Cell.{Cell}
use Rattle.cell.specs.States.{cell_in, state_in, Projectable}
use Rattle.cell.proofs.Cells.{state_ready, state_start, state_next, premium_is, claims_is}
use Rattle.cell_projection.specs.Tables.{amount_by, added, year_more}
use Rattle.cell_projection.proofs.Years.{two_added, amount_premium, amount_claims}
use Rattle.cell_projection.proofs.Ends.{each_five}
use Rattle.five_cells.specs.Five.{five_in, FiveReady, AllInForce, next_five, ten_more}
use Rattle.five_cells.specs.Five.{FiveCells}

module _ (t : List ℕ) (r n : ℕ) where
  -- the start
  pub five_start : (c : Cell) → c ≡ record { row = r; inforce = n * 1_000_000_000 }
      → ◌≡◌ {A = FiveCells} (record { base = c; mortality_up = c; mortality_down = c; lapse_up = c; lapse_down = c })
      (five_in t r n 0)
  unfolding five_in
  five_start c e =
      rw (e, state_start t r n 0, state_start t r n 1, state_start t r n 2, state_start t r n 3, state_start t r n 4)

  module _ (k : ℕ) where
    -- a year more
    pub five_next : next_five t k (five_in t r n k) ≡ five_in t r n (k + 1)
    unfolding next_five five_in
    five_next = rw (
      state_next t r n 0 k,
      state_next t r n 1 k,
      state_next t r n 2 k,
      state_next t r n 3 k,
      state_next t
          r n 4 k,
    )

    -- with something in force in all of them each goes on
    pub all_on : k < 50 → (c : FiveCells) → c ≡ five_in t r n k → AllInForce c → (s : ℕ) → s < 5
        → in_force rounded (cell_in t r n s) k ≡ 0 → ⊥
    unfolding five_in state_in
    all_on h c e a =
        each_five (λ s. in_force rounded (cell_in t r n s) k ≡ 0 → ⊥)
        (λ z. omega (arith, a.base, ap (λ (x : FiveCells). x.base.inforce) e, z))
        (λ z. omega (arith, a.mortality_is_up, ap (λ (x : FiveCells). x.mortality_up.inforce) e, z))
        (λ z. omega (arith, a.mortality_is_down, ap (λ (x : FiveCells). x.mortality_down.inforce) e, z))
        (λ z. omega (arith, a.lapse_up, ap (λ (x : FiveCells). x.lapse_up.inforce) e, z))
        (λ z. omega (arith, a.lapse_down, ap (λ (x : FiveCells). x.lapse_down.inforce) e, z))

    -- what a projection adds
    one_added : (s : ℕ) → s < 5 → (g : ℕ → ℕ) → ((j : ℕ) → 10 * k ≤ j → g j ≡ amount_by (cell_in t r n) j)
        → (u v : List ℕ) → u ≡ added g (10 * k + 2 * s) v
        → year_more t s k (state_in t r n s k) u ≡ added g (10 * k + 2 * s + 2) v
    one_added s h g same u v e =
        two_added g (10 * k + 2 * s) v u _ _ e
        (premium_is t r n s k ∙ sym (same _ (omega arith) ∙ amount_premium (cell_in t r n) k s h))
        (claims_is t r n s k ∙ sym (same _ (omega arith) ∙ amount_claims (cell_in t r n) k s h))

    -- and all five
    pub ten_added : (g : ℕ → ℕ) → ((j : ℕ) → 10 * k ≤ j → g j ≡ amount_by (cell_in t r n) j) → (u v : List ℕ)
        → u ≡ added g (10 * k) v
        → ten_more t k (five_in t r n k) u ≡ added g (10 * (k + 1)) v
    unfolding ten_more five_in
    ten_added g same u v e =
        on 4 (omega arith) (10 * (k + 1)) (omega arith)
        (on 3 (omega arith) _ refl
        (on 2 (omega arith) _ refl
        (on 1 (omega arith) _ refl (on 0 (omega arith) _ refl (at 0 (10 * k) (omega arith) e)))))
      where
        at : (s m : ℕ) → m ≡ 10 * k + 2 * s → {w : List ℕ} → w ≡ added g m v → w ≡ added g (10 * k + 2 * s) v
        at s m h f = rw h at f

        on : (s : ℕ) → s < 5 → (m : ℕ) → 10 * k + 2 * (s + 1) ≡ m → {w : List ℕ} → w ≡ added g (10 * k + 2 * s) v
            → year_more t s k (state_in t r n s k) w ≡ added g m v
        on s h m q {w} f =
            let end : 10 * k + 2 * s + 2 ≡ m = omega (arith, q) in
            rw end at (one_added s h g same w v f)

  module _ (s : Projectable t r n) where
    pub five_ready : (k : ℕ) → k < 50 → FiveReady t (five_in t r n k)
    unfolding five_in
    five_ready k h =
        record {
          base = state_ready t r n 0 s k h;
          mortality_is_up = state_ready t r n 1 s k h;
          mortality_is_down = state_ready t r n 2 s k h;
          lapse_up = state_ready t r n 3 s k h;
          lapse_down = state_ready t r n 4 s k h;
        }
