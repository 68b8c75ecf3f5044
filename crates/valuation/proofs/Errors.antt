-- The error of each figure, in millionths, as so much for each cell with contracts and so much flat. Assumes nothing.
use Prim.Native.Nat.{ℕ, ◌+◌, ◌*◌, ◌/◌, ◌≤◌, ◌<◌, max}
use native.Mathlib.Nat.{mul-le-mul_left, mul-le-mul_right, le_trans, lt-div-mul-add, le-max_left, le-max_right}
use native.Mathlib.Omega.{arith}
use Rattle.valuation.specs.Arithmetic.{Fraction, plus_fraction, part_fraction, lesser_fraction}
use Rattle.valuation.proofs.Approximation.{Near, near_part, near_plus, near_more, near_lesser}

pub record Err : Type 0 where
  pub each : ℕ
  pub flat : ℕ

-- the error with n cells
abbrev pub at : Err → ℕ → ℕ
at E n = E.each * n + E.flat

-- e times w over d, rounded up
unfoldable pub up : ℕ → ℕ → ℕ → ℕ
up e w d = e * w / d + 1

pub up_most : (e w d : ℕ) → 0 < d → e * w ≤ up e w d * d
unfolding up
up_most e w d h = omega (arith, lt-div-mul-add {a = e * w} h)

abbrev pub no_err : Err
no_err = record { each = 0; flat = 0 }

abbrev pub plus_err : Err → Err → Err
plus_err E F = record { each = E.each + F.each; flat = E.flat + F.flat }

abbrev pub part_err : Err → ℕ → ℕ → Err
part_err E w d = record { each = up E.each w d; flat = up E.flat w d + 1_000_000 }

abbrev pub max_err : Err → Err → Err
max_err E F = record { each = max E.each F.each; flat = max E.flat F.flat }

pub at_most : (n : ℕ) (E F : Err) → E.each ≤ F.each → E.flat ≤ F.flat → at E n ≤ at F n
at_most n E F p q = omega (arith, mul-le-mul_right n p)

module _ (n : ℕ) where
  pub near_plus_err : {r s : ℕ} {x y : Fraction} (E F : Err) → Near r x (at E n) → Near s y (at F n)
      → Near (r + s) (plus_fraction x y) (at (plus_err E F) n)
  near_plus_err E F p q = near_more (omega arith) (near_plus p q)

  -- w is at most W, and d at least D
  pub near_part_err : {r : ℕ} {x : Fraction} (E : Err) (w d W D : ℕ) → w ≤ W → 0 < D → D ≤ d → Near r x (at E n)
      → Near (r * w / d) (part_fraction x w d) (at (part_err E W D) n)
  near_part_err E w d W D hw hD hd p =
      near_more (omega arith) (near_part w d (up E.each W D * n + up E.flat W D) (omega arith) scaled p)
    where
      scaled : at E n * w ≤ (up E.each W D * n + up E.flat W D) * d
      scaled = le_trans (mul-le-mul_left (at E n) hw)
          (le_trans (omega (arith, mul-le-mul_right n (up_most E.each W D hD), up_most E.flat W D hD))
          (mul-le-mul_left (up E.each W D * n + up E.flat W D) hd))

  pub near_lesser_err : {r s : ℕ} {x y : Fraction} (E F : Err) → Near r x (at E n) → Near s y (at F n)
      → Near (Prim.Native.Nat.min r s) (lesser_fraction x y) (at (max_err E F) n)
  near_lesser_err E F p q =
      near_lesser (at (max_err E F) n) (at_most n E (max_err E F) (le-max_left _ _) (le-max_left _ _))
      (at_most n F (max_err E F) (le-max_right _ _) (le-max_right _ _)) p q
