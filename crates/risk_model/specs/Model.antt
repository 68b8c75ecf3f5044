-- A risk model's rules (W-212, by FINMA 5.2.1): its coefficients and its correlation.
-- `every test n`: the test holds for each number below n.
use Rattle.std.specs.Prelude.{ℕ, ◌+◌, ◌*◌, ◌/◌, ◌%◌, ◌≤◌, ◌<◌, ◌≡◌, Bool, not, ◌&&◌, ◌||◌, List, leb, eqb, ℤ, pos}
use Rattle.std.specs.Prelude.{nat_abs, get_or}
use Rattle.conditions.specs.Every.{every}
use Rattle.signed.specs.Signs.{number_at, same}
use Rattle.risk_model.specs.declared.RiskModel.{RiskModel}

-- each coefficient is at most 1,000,000 millionths
unfoldable pub coefficients_right : List ℕ → Bool
coefficients_right coefficients = every (λ i. leb (get_or coefficients i 0) 1_000_000) 4

-- the correlation of factors i and j in thousandths: the sixteen stand row by row
abbrev pub correlation_at : List ℤ → ℕ → ℕ → ℤ
correlation_at r i j = number_at r (4 * i + j)

-- correlation i j is from -1,000 to 1,000, is correlation j i, and is 1,000 on the diagonal
unfoldable pub right_at : List ℤ → ℕ → ℕ → Bool
right_at r i j =
    leb (nat_abs (correlation_at r i j)) 1000
    && same (correlation_at r i j) (correlation_at r j i)
    && (not (eqb i j) || same (correlation_at r i j) (pos 1000))

unfoldable pub correlation_right : List ℤ → Bool
correlation_right r = every (λ k. right_at r (k / 4) (k % 4)) 16

-- 29 where not
unfoldable pub model_valid : RiskModel → Bool
model_valid m = coefficients_right m.coefficients && correlation_right m.correlation

-- the rules of a correlation one by one: `correlation_rules` and `rules_right` (proofs/Rules) show that it is these
pub record CorrelationRules (r : List ℤ) : Type 0 where
  pub range : (i j : ℕ) → i < 4 → j < 4 → nat_abs (correlation_at r i j) ≤ 1000
  pub symmetric : (i j : ℕ) → i < 4 → j < 4 → correlation_at r i j ≡ correlation_at r j i
  pub diagonal : (i : ℕ) → i < 4 → correlation_at r i i ≡ pos 1000
