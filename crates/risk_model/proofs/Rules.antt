-- What the tests of a model leave: coefficients and correlation in their ranges. A correlation passes exactly where it
-- keeps its rules. Assumes nothing.
use mathlib.Core.Path.{◌≡◌, refl}
use mathlib.Core.Bool.{Bool, true, false, not, ◌&&◌, ◌||◌}
use mathlib.Core.List.{List}
use Prim.Native.Nat.{ℕ, ◌+◌, ◌*◌, ◌/◌, ◌%◌, ◌≤◌, ◌<◌}
use native.Mathlib.Omega.{arith}
use borrow.Author.Tests.{leb-true, le-leb, eq-eqb, eqb-true}
use lib.Dec.{leb, eqb}
use lib.IntN.{ℤ, pos, nat_abs}
use lib.ListN.{get_or}
use Rattle.conditions.proofs.Joined.{and_left, and_right}
use Rattle.conditions.proofs.Every.{every_holds, every_good}
use Rattle.signed.specs.Signs.{same, SizesTo}
use Rattle.std.proofs.lemmas.Bool.Decides.{Decides-int_eq}
use Rattle.risk_model.specs.declared.RiskModel.{RiskModel}
use Rattle.risk_model.specs.Model.{coefficients_right, correlation_at, right_at, correlation_right, model_valid}
use Rattle.risk_model.specs.Model.{CorrelationRules}

-- a model that passes 29
pub model_coefficients : (m : RiskModel) → model_valid m ≡ true → coefficients_right m.coefficients ≡ true
unfolding model_valid
model_coefficients m e = and_left _ (correlation_right m.correlation) e

pub model_correlation : (m : RiskModel) → model_valid m ≡ true → correlation_right m.correlation ≡ true
unfolding model_valid
model_correlation m e = and_right (coefficients_right m.coefficients) _ e

pub coefficients_most : (cs : List ℕ) → coefficients_right cs ≡ true → (i : ℕ) → i < 4 → get_or cs i 0 ≤ 1000000
unfolding coefficients_right
coefficients_most cs e i h = leb-true _ _ (every_holds (λ (i : ℕ). leb (get_or cs i 0) 1000000) 4 i e h)

module _ (r : List ℤ) (e : correlation_right r ≡ true) where
  right_each : (i j : ℕ) → i < 4 → j < 4 → right_at r i j ≡ true
  unfolding correlation_right
  right_each i j hi hj =
      let row : (4 * i + j) / 4 ≡ i = omega arith in
      let column : (4 * i + j) % 4 ≡ j = omega arith in
      rw (row, column) at (every_holds (λ (k : ℕ). right_at r (k / 4) (k % 4)) 16 (4 * i + j) e (omega arith))

  pub correlation_rules : CorrelationRules r
  unfolding right_at
  correlation_rules =
      record {
        range = λ i j hi hj. leb-true _ _ (and_left (ranged i j) (mirrored i j) (in_front i j hi hj));
        symmetric = λ i j hi hj. (Decides-int_eq _ _).0 (and_right (ranged i j) (mirrored i j) (in_front i j hi hj));
        diagonal =
            λ i hi.
            let one = and_right (front i i) (diagonal i i) (right_each i i hi hi) in
            (Decides-int_eq _ _).0 (rw (eq-eqb i i refl) at one);
      }
    where
      ranged : ℕ → ℕ → Bool
      ranged i j = leb (nat_abs (correlation_at r i j)) 1000

      mirrored : ℕ → ℕ → Bool
      mirrored i j = same (correlation_at r i j) (correlation_at r j i)

      front : ℕ → ℕ → Bool
      front i j = ranged i j && mirrored i j

      diagonal : ℕ → ℕ → Bool
      diagonal i j = not (eqb i j) || same (correlation_at r i j) (pos 1000)

      in_front : (i j : ℕ) → i < 4 → j < 4 → front i j ≡ true
      in_front i j hi hj = and_left (front i j) (diagonal i j) (right_each i j hi hj)

  pub correlation_most : SizesTo 1000 16 r
  correlation_most k h =
      let place : 4 * (k / 4) + k % 4 ≡ k = omega arith in
      rw place at (correlation_rules.range (k / 4) (k % 4) (omega arith) (omega arith))

module _ (r : List ℤ) (h : CorrelationRules r) where
  right_good : (i j : ℕ) → i < 4 → j < 4 → right_at r i j ≡ true
  unfolding right_at
  right_good i j hi hj =
      rw (le-leb _ _ (h.range i j hi hj), (Decides-int_eq _ _).1 (h.symmetric i j hi hj)) (by (eqb i j) refl)
    where
      by : (t : Bool) → eqb i j ≡ t → (not t || same (correlation_at r i j) (pos 1000)) ≡ true
      by true e = (Decides-int_eq (correlation_at r i j) (pos 1000)).1 (rw (← (eqb-true i j e)) (h.diagonal i hi))
      by false e = refl

  pub rules_right : correlation_right r ≡ true
  unfolding correlation_right
  rules_right = every_good _ 16 (λ k l. right_good (k / 4) (k % 4) (omega arith) (omega arith))
