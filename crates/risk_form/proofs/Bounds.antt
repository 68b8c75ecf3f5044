-- How large the form can be behind 29 and 30, and its root: no step passes 64 bits. Assumes nothing.
use mathlib.Core.Path.{◌≡◌, refl}
use mathlib.Core.Bool.{Bool, true, false}
use mathlib.Core.List.{List}
use Prim.Native.Nat.{ℕ, ◌+◌, ◌*◌, ◌≤◌, ◌<◌}
use native.Mathlib.Omega.{arith}
use native.Mathlib.Nat.{mul-le-mul, lt_irrefl}
use borrow.Author.Tests.{leb-true, leb-false}
use lib.Dec.{leb}
use lib.IntN.{ℤ, nat_abs, ◌*ℤ◌}
use Rattle.arith.proofs.Division.{product_le}
use Rattle.lists.specs.Sums.{signed_sum_below}
use Rattle.lists.proofs.Sums.{sum_most}
use Rattle.signed.specs.Signs.{number_at, SizesTo}
use Rattle.signed.proofs.Sizes.{abs_plus, abs_times}
use Rattle.risk_model.specs.Model.{correlation_at}
use Rattle.risk_form.specs.Form.{term_of, form_of}
use Rattle.risk_form.specs.Root.{IntegerSquareRoot}

-- the terms of row i, added
abbrev pub row_of : List ℤ → List ℤ → ℕ → ℤ
row_of r f i = signed_sum_below (λ (j : ℕ). term_of r f i j) 4

module _ (r f : List ℤ) (known : SizesTo 1000 16 r) (small : SizesTo 1_000_000 4 f) where
  -- factor i times its correlation, and that times factor j
  pub half_most : (i j : ℕ) → i < 4 → j < 4 → nat_abs (number_at f i) * nat_abs (correlation_at r i j) ≤ 1_000_000_000
  half_most i j hi hj = product_le 1_000_000 1000 (small i hi) (known (4 * i + j) (omega arith))

  pub whole_most : (i j : ℕ) → i < 4 → j < 4
      → nat_abs (number_at f i *ℤ correlation_at r i j) * nat_abs (number_at f j) ≤ 1_000_000_000_000_000
  whole_most i j hi hj =
      rw (abs_times (number_at f i) (correlation_at r i j))
      (product_le 1_000_000_000 1_000_000 (half_most i j hi hj) (small j hj))

  pub term_most : (i j : ℕ) → i < 4 → j < 4 → nat_abs (term_of r f i j) ≤ 1_000_000_000_000_000
  term_most i j hi hj = rw (abs_times (number_at f i *ℤ correlation_at r i j) (number_at f j)) (whole_most i j hi hj)

  pub row_most : (i n : ℕ) → i < 4 → n ≤ 4 → nat_abs (signed_sum_below (term_of r f i) n) ≤ 1_000_000_000_000_000 * n
  row_most i n hi hn = sum_most _ _ nat_abs refl abs_plus (term_of r f i) _ n (λ j h. term_most i j hi (omega arith))

  pub rows_most : (n : ℕ) → n ≤ 4 → nat_abs (signed_sum_below (row_of r f) n) ≤ 4_000_000_000_000_000 * n
  rows_most n hn = sum_most _ _ nat_abs refl abs_plus (row_of r f) _ n (λ i h. omega (
    arith,
    row_most i 4
        (omega arith) (omega arith),
  ))

  pub form_most : nat_abs (form_of r f) ≤ 16_000_000_000_000_000
  unfolding form_of
  form_most = omega (arith, rows_most 4 (omega arith))

-- a root is at most the root of the bound
pub root_most : (q r m : ℕ) → IntegerSquareRoot q r → q < (m + 1) * (m + 1) → r ≤ m
root_most q r m h low = by (leb r m) (leb-true r m) (leb-false r m)
  where
    by : (t : Bool) → (t ≡ true → r ≤ m) → (t ≡ false → m < r) → r ≤ m
    by true a b = a refl
    by false a b =
        let l : m < r = b refl in
        let squares = mul-le-mul {n₁ = m + 1} {m₁ = m + 1} {n₂ = r} {m₂ = r} (omega arith) (omega arith) in
        absurd (lt_irrefl q (omega (arith, h.at_most, low, squares)))
