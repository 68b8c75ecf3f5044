-- Laws of sums over an index: equal sums, one term more, bounds, the first term apart, two parts. Assumes nothing.
use mathlib.Core.Path.{◌≡◌, refl, ap, ◌∙◌}
use Prim.Native.Nat.{ℕ, zero, suc, ◌+◌, ◌-◌, ◌*◌, ◌<◌, ◌≤◌}
use native.Mathlib.Nat.{zero-add}
use native.Mathlib.Numerals.{add-one}
use native.Mathlib.Omega.{arith}
use Rattle.lists.specs.Sums.{sum_by, sum_below, sum_from}

module _ {A : Type 0} (none : A) (plus : A → A → A) where
  -- two functions that agree on these indexes
  pub sum_same : (f g : ℕ → A) (n : ℕ) → ((j : ℕ) → j < n → f j ≡ g j) → sum_by none plus f n ≡ sum_by none plus g n
  unfolding sum_by
  sum_same f g zero same = refl
  sum_same f g (suc n) same = rw (sum_same f g n (λ j h. same j (omega arith)), same n (omega arith))

  -- one term more
  pub sum_more : (f : ℕ → A) (n : ℕ) (x y z : A) → x ≡ sum_by none plus f n → y ≡ f n → z ≡ plus x y
      → z ≡ sum_by none plus f (n + 1)
  unfolding sum_by
  sum_more f n x y z ex ey ez = ez ∙ rw (ex, ey, add-one n)

  -- a sum of terms of which none is larger than m
  pub sum_most : (size : A → ℕ) → size none ≡ 0 → ((x y : A) → size (plus x y) ≤ size x + size y) → (f : ℕ → A)
      (m n : ℕ) → ((j : ℕ) → j < n → size (f j) ≤ m) → size (sum_by none plus f n) ≤ m * n
  unfolding sum_by
  sum_most size empty parts f m zero each = omega (arith, empty)
  sum_most size empty parts f m (suc n) each =
      omega (
        arith,
        parts (sum_by none plus f n) (f n),
        sum_most size empty parts f m n (λ j h. each j (omega arith)),
        each n (omega arith),
      )

-- from 0 on
pub sum_start : (f : ℕ → ℕ) (n : ℕ) → sum_from f 0 n ≡ sum_below f n
sum_start f n = sum_same 0 ◌+◌ (λ j. f (0 + j)) f n (λ j h. ap f (zero-add j))

-- the first term apart
pub sum_first : (f : ℕ → ℕ) (k n : ℕ) → sum_from f k (suc n) ≡ f k + sum_from f (k + 1) n
unfolding sum_by
sum_first f k zero = let e : k + 0 ≡ k = omega arith in rw e (omega arith)
sum_first f k (suc n) =
    let e : k + suc n ≡ k + 1 + n = omega arith in
    omega (arith, sum_first f k n, ap f e)

-- in two parts
pub sum_split : (f : ℕ → ℕ) (m n : ℕ) → sum_below f (m + n) ≡ sum_below f m + sum_from f m n
unfolding sum_by
sum_split f m zero = let e : m + 0 ≡ m = omega arith in rw e (omega arith)
sum_split f m (suc n) =
    let e : m + suc n ≡ suc (m + n) = omega arith in
    rw e (omega (arith, sum_split f m n))

-- terms of 0 add nothing
pub sum_rest : (f : ℕ → ℕ) (m n : ℕ) → ((j : ℕ) → m ≤ j → j < m + n → f j ≡ 0) → sum_below f (m + n) ≡ sum_below f m
sum_rest f m n none =
    omega (
      arith,
      sum_split f m n,
      sum_most 0 ◌+◌ (λ x. x) refl (λ x y. omega arith) (λ j. f (m + j)) 0 n
          (λ j h. omega (arith, none (m + j) (omega arith) (omega arith))),
    )

-- a term and those before it are no more than the sum
pub sum_within : (f : ℕ → ℕ) (n k : ℕ) → k < n → sum_below f k + f k ≤ sum_below f n
sum_within f n k h =
    let e : k + 1 + (n - (k + 1)) ≡ n = omega arith in
    omega (arith, rw e at (sum_split f (k + 1) (n - (k + 1))), sum_more 0 ◌+◌ f k _ _ _ refl refl refl)
