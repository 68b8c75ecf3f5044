-- Laws of discounted years, of their sums, and of the liability. Assumes nothing.
use mathlib.Core.Path.{◌≡◌, refl, sym, ap, ◌∙◌}
use mathlib.Core.List.{List}
use Prim.Native.Nat.{ℕ, ◌+◌, ◌≤◌, min}
use native.Mathlib.Omega.{arith}
use lib.IntN.{pos, ◌-ℤ◌}
use Rattle.lists.specs.Sums.{sum_below}
use Rattle.settings_decrements.specs.Decrements.{decrements_of}
use Rattle.valuation.specs.Arithmetic.{rounded}
use Rattle.valuation.specs.Steps.{outgo, counted_premium, discounted, discounted_outgo, discounted_premium}
use Rattle.valuation.specs.Steps.{total_outgo, total_premium, liability}
use Rattle.valuation.specs.Portfolio.{divisor_of, terms_of, group_cells}
use Rattle.valuation.specs.Replies.{group_liability}
use Rattle.cash_flow.specs.CashFlow.{InYears}
use Rattle.discount.specs.Discount.{divisors, DiscountedIn}
use Rattle.discount.specs.declared.curve.YearDivisor.{YearDivisor}
use Rattle.discount_curve.specs.Curve.{CurveOf}

-- discounted each for its own number of years
pub in_discounted : (b : List ℕ) (curve : List YearDivisor) (f g : ℕ → ℕ) (from j to : ℕ) (before after : List ℕ)
    → CurveOf b curve
    → ((k : ℕ) → g k ≡ discounted rounded (divisor_of b k) k (f k)) → j + 1 ≡ to → to ≤ 50
    → InYears f 4_000_000_000_000_000 from to before → DiscountedIn (divisors curve) j to before after
    → InYears g 9_000_000_000_000_000 from to after
in_discounted b curve f g from j to before after c e last few u d = record {
  are = λ k h l.
      let z : min j k ≡ k = omega arith in
      (d.each k h).is ∙ rw (z, c k (omega arith), u.are k h l) (sym (e k));
  most = record { each = λ k h. omega (arith, (d.each k h).most) };
}

module _ (b : List ℕ) (s g : ℕ) where
  -- both are discounted for k years with the divisor of year k
  pub outgo_discounted : (k : ℕ) → discounted_outgo rounded (terms_of b s g) (group_cells b (decrements_of b s) g) k
      ≡ discounted rounded (divisor_of b k) k (outgo rounded (terms_of b s g) (group_cells b (decrements_of b s) g) k)
  unfolding discounted_outgo terms_of
  outgo_discounted k = refl

  pub premium_discounted : (k : ℕ) → discounted_premium rounded (terms_of b s g) (group_cells b (decrements_of b s) g) k
      ≡ discounted rounded (divisor_of b k) k
      (counted_premium rounded (terms_of b s g) (group_cells b (decrements_of b s) g) k)
  unfolding discounted_premium terms_of
  premium_discounted k = refl

  pub liability_is : (k paid earned : ℕ) → k ≡ 50
      → paid ≡ sum_below (discounted_outgo rounded (terms_of b s g) (group_cells b (decrements_of b s) g)) k
      → earned ≡ sum_below (discounted_premium rounded (terms_of b s g) (group_cells b (decrements_of b s) g)) k
      → pos paid -ℤ pos earned ≡ group_liability b s g
  unfolding group_liability liability total_outgo total_premium
  liability_is k paid earned h hp he =
      let cs = group_cells b (decrements_of b s) g in
      let o = rw h at hp in
      let p = rw h at he in
      ap (λ (x : ℕ). pos x -ℤ pos earned) o ∙ ap
      (λ (x : ℕ). pos (sum_below (discounted_outgo rounded (terms_of b s g) cs) 50) -ℤ pos x) p
