-- Sums over an index, said once for all kinds of numbers.
use Rattle.std.specs.Prelude.{ℕ, zero, suc, ◌+◌, ℤ, pos, ◌+ℤ◌}

-- what f gives for 0, 1 and so on, n of them, added by `plus`, beginning with `none`
unfoldable pub sum_by : {A : Type 0} → A → (A → A → A) → (ℕ → A) → ℕ → A
sum_by none plus f zero = none
sum_by none plus f (suc n) = plus (sum_by none plus f n) (f n)

-- whole numbers, for the indexes below n
abbrev pub sum_below : (ℕ → ℕ) → ℕ → ℕ
sum_below f n = sum_by 0 ◌+◌ f n

-- whole numbers, for k, k + 1 and so on, n of them
abbrev pub sum_from : (ℕ → ℕ) → ℕ → ℕ → ℕ
sum_from f k n = sum_below (λ j. f (k + j)) n

-- numbers with a sign, for the indexes below n
abbrev pub signed_sum_below : (ℕ → ℤ) → ℕ → ℤ
signed_sum_below f n = sum_by (pos 0) ◌+ℤ◌ f n
