-- The years of all five side by side, and those of each alone after them, are all years. Assumes nothing.
use mathlib.Core.Path.{◌≡◌, refl, sym, ◌∙◌}
use mathlib.Core.Bool.{Bool, true, false, cond}
use mathlib.Core.List.{List}
use Prim.Native.Nat.{ℕ, ◌+◌, ◌-◌, ◌*◌, ◌/◌, ◌%◌, ◌≤◌, ◌<◌}
use native.Mathlib.Omega.{arith}
use borrow.Author.Tests.{lt-ltb, le-ltb, ltb-true, ltb-false}
use lib.Dec.{ltb}
use Rattle.cell_projection.specs.Tables.{added, late, only_years}
use Rattle.cell_projection.proofs.Years.{added_rest, added_same, added_join, from_start}
use Rattle.cell_projection.proofs.Ends.{each_five}
use Rattle.cell_projection.proofs.Single.{within_other, within_early, within_own}

-- f before number m, and nothing from there on
unfoldable early : ℕ → (ℕ → ℕ) → ℕ → ℕ
early m f j = cond (ltb j m) (f j) 0

module _ (f : ℕ → ℕ) (m j : ℕ) where
  early_low : j < m → early m f j ≡ f j
  unfolding early
  early_low h = rw (lt-ltb j m h)

  early_high : m ≤ j → early m f j ≡ 0
  unfolding early
  early_high h = rw (le-ltb j m h)

early_added : (f : ℕ → ℕ) (m : ℕ) (u : List ℕ) → m ≤ 500 → added f m u ≡ added (early m f) 500 u
early_added f m u h =
    let all : (500 - m) + m ≡ 500 = omega arith in
    added_same f (early m f) m u (λ j l. sym (early_low f m j l)) ∙ sym
    (rw all at (added_rest (early m f) m (500 - m) u (λ j l g. early_high f m j l)))

-- the years of all five before year k, and those of each from there on, are all years
module _ (f : ℕ → ℕ) (k : ℕ) (few : k ≤ 50) where
  Whole : ℕ → Type 0
  Whole j =
      early (10 * k) f j + only_years f 0 k 50 j + only_years f 1 k 50 j + only_years f 2 k 50 j
      + only_years f 3 k 50 j + only_years f 4 k 50 j ≡ f j

  whole : (j : ℕ) → j < 500 → Whole j
  unfolding Whole
  whole j l = by (ltb j (10 * k)) refl
    where
      by : (b : Bool) → ltb j (10 * k) ≡ b
          → early (10 * k) f j + only_years f 0 k 50 j + only_years f 1 k 50 j + only_years f 2 k 50 j
          + only_years f 3 k 50 j + only_years f 4 k 50 j ≡ f j
      by true e =
          let h = ltb-true j (10 * k) e in
          omega (
            arith,
            early_low f (10 * k) j h,
            within_early f 0 k 50 j (omega (arith, h)),
            within_early f 1 k 50 j
                (omega (arith, h)),
            within_early f 2 k 50 j (omega (arith, h)),
            within_early f 3 k 50 j
                (omega (arith, h)),
            within_early f 4 k 50 j (omega (arith, h)),
          )
      by false e =
          let h = ltb-false j (10 * k) e in
          let z = early_high f (10 * k) j h in
          each_five
          (λ s. j % 10 / 2 ≡ s
          → early (10 * k) f j + only_years f 0 k 50 j + only_years f 1 k 50 j + only_years f 2 k 50 j
          + only_years f 3 k 50 j + only_years f 4 k 50 j ≡ f j)
          (λ q. omega (
            arith,
            z,
            within_own f 0 k 50 j q (omega (arith, h)) (omega arith),
            within_other f 1 k 50 j
                (λ p. omega (arith, p, q)),
            within_other f 2 k 50 j (λ p. omega (arith, p, q)),
            within_other f 3 k 50 j
                (λ p. omega (arith, p, q)),
            within_other f 4 k 50 j (λ p. omega (arith, p, q)),
          ))
          (λ q. omega (
            arith,
            z,
            within_own f 1 k 50 j q (omega (arith, h)) (omega arith),
            within_other f 0 k 50 j
                (λ p. omega (arith, p, q)),
            within_other f 2 k 50 j (λ p. omega (arith, p, q)),
            within_other f 3 k 50 j
                (λ p. omega (arith, p, q)),
            within_other f 4 k 50 j (λ p. omega (arith, p, q)),
          ))
          (λ q. omega (
            arith,
            z,
            within_own f 2 k 50 j q (omega (arith, h)) (omega arith),
            within_other f 0 k 50 j
                (λ p. omega (arith, p, q)),
            within_other f 1 k 50 j (λ p. omega (arith, p, q)),
            within_other f 3 k 50 j
                (λ p. omega (arith, p, q)),
            within_other f 4 k 50 j (λ p. omega (arith, p, q)),
          ))
          (λ q. omega (
            arith,
            z,
            within_own f 3 k 50 j q (omega (arith, h)) (omega arith),
            within_other f 0 k 50 j
                (λ p. omega (arith, p, q)),
            within_other f 1 k 50 j (λ p. omega (arith, p, q)),
            within_other f 2 k 50 j
                (λ p. omega (arith, p, q)),
            within_other f 4 k 50 j (λ p. omega (arith, p, q)),
          ))
          (λ q. omega (
            arith,
            z,
            within_own f 4 k 50 j q (omega (arith, h)) (omega arith),
            within_other f 0 k 50 j
                (λ p. omega (arith, p, q)),
            within_other f 1 k 50 j (λ p. omega (arith, p, q)),
            within_other f 2 k 50 j
                (λ p. omega (arith, p, q)),
            within_other f 3 k 50 j (λ p. omega (arith, p, q)),
          ))
          (j % 10 / 2) (omega arith) refl

  pub all_added : (u v v₀ v₁ v₂ v₃ v₄ : List ℕ) → v ≡ added (late 0 f) (10 * k) u
      → v₀ ≡ added (only_years f 0 k 50) 500 v → v₁ ≡ added (only_years f 1 k 50) 500 v₀
      → v₂ ≡ added (only_years f 2 k 50) 500 v₁ → v₃ ≡ added (only_years f 3 k 50) 500 v₂
      → v₄ ≡ added (only_years f 4 k 50) 500 v₃ → v₄ ≡ added f 500 u
  unfolding Whole
  all_added u v v₀ v₁ v₂ v₃ v₄ e e₀ e₁ e₂ e₃ e₄ =
      added_join _ (only_years f 4 k 50) f 500 u v₃ v₄
      (added_join _ (only_years f 3 k 50) _ 500 u v₂ v₃
      (added_join _ (only_years f 2 k 50) _ 500 u v₁ v₂
      (added_join _ (only_years f 1 k 50) _ 500 u v₀ v₁
      (added_join (early (10 * k) f) (only_years f 0 k 50) (λ j. early (10 * k) f j + only_years f 0 k 50 j) 500 u v v₀
      (from_start f (10 * k) u v e ∙ early_added f (10 * k) u (omega arith)) e₀ (λ j l. refl))
      e₁ (λ j l. refl)) e₂ (λ j l. refl)) e₃ (λ j l. refl)) e₄ whole
