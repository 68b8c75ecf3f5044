-- The trial figures T1 to T12 hold, all together. Assumes nothing.
use mathlib.Core.Path.{◌≡◌, refl, ◌∙◌, ap}
use mathlib.Core.Bool.{Bool, cond}
use mathlib.Core.List.{List}
use Prim.Native.Nat.{ℕ, zero, suc, ◌*◌, ◌/◌, ◌<◌}
use native.Mathlib.Nat.{zero-mul}
use native.Mathlib.Omega.{arith}
use borrow.Author.Tests.{lt-ltb}
use Rattle.book.specs.Layout.{last_class, class_of}
use Rattle.book.proofs.TestVectors.{t11, t12}
use Rattle.settings.specs.Settings.{weight_of}
use Rattle.settings_decrements.specs.Decrements.{percent_of, mortality_weight, decrements_of}
use Rattle.settings_decrements.specs.Decrements.{Decrements}
use Rattle.valuation.specs.Arithmetic.{rounded}
use Rattle.valuation.specs.Steps.{in_force, capped_if, capped, discounted}
use Rattle.valuation.specs.Portfolio.{divisor_of, one_less, row_at, cell_of}
use Rattle.valuation.specs.TestVectors.{OneMan, in_force_after, TestVectors}

module _ (b : List ℕ) (i mortality lapse : ℕ) (o : OneMan b i mortality lapse) (w : Decrements) where
  -- in the first two years the man is below the last class
  young_row : (k : ℕ) → k < 2 → class_of b (row_at b i k) < last_class 1
  unfolding row_at
  young_row zero two = omega (arith, o.young)
  young_row (suc zero) two =
      rw (lt-ltb (class_of b i) (last_class 1) (omega (arith, o.young))) (omega (arith, o.young, o.ages))
  young_row (suc (suc k)) two = absurd (omega arith)

  survival_is : (k : ℕ) → k < 2 → (cell_of b w i).survival k ≡ one_less mortality w.first.men
  unfolding cell_of
  survival_is k two =
      let young = young_row k two in
      rw (o.man, o.dies (class_of b (row_at b i k)) (omega arith), lt-ltb k 5 (omega arith))

  persistency_is : (k : ℕ) → k < 2 → (cell_of b w i).persistency k ≡ one_less lapse w.first.lapse
  unfolding cell_of
  persistency_is k two =
      rw (o.leaves k)
      (ap (λ (t : Bool). one_less lapse (cond t w.first w.later).lapse) (lt-ltb k 5 (omega arith)))

  year : (k f : ℕ) → k < 2 → in_force rounded (cell_of b w i) k ≡ f
      → in_force rounded (cell_of b w i) (suc k) ≡ f * one_less mortality w.first.men / 1_000_000_000 * one_less lapse
      w.first.lapse / 1_000_000_000
  unfolding in_force
  year k f two e = rw (e, survival_is k two, persistency_is k two)

  first : in_force rounded (cell_of b w i) 1 ≡ 1_000_000_000 * one_less mortality w.first.men / 1_000_000_000 * one_less
      lapse w.first.lapse / 1_000_000_000
  unfolding in_force cell_of
  first = year 0 1_000_000_000 (omega arith) (rw o.one)

pub test_vectors : TestVectors
unfolding discounted divisor_of capped capped_if one_less weight_of percent_of mortality_weight decrements_of
test_vectors = record {
  t1 = λ b rate. rw rate;
  t2 = λ b rate. rw rate;
  t3 = refl;
  t4 = refl;
  t5 = refl;
  t6 = λ premium. omega arith;
  t7 = λ b i one o. first b i _ _ o (decrements_of b 0) ∙ rw one;
  t8 = λ b i one o. first b i _ _ o (decrements_of b 1) ∙ rw one;
  t9 = λ b i one o. first b i _ _ o (decrements_of b 2) ∙ rw one;
  t10 = λ b i o.
      let w = decrements_of b 0 in
      let one : in_force_after b 0 i 1 ≡ 666_667_000 = first b i _ _ o w ∙ rw zero-mul in
      (one, year b i _ _ o w 1 666_667_000 (omega arith) one ∙ rw zero-mul);
  t11 = t11;
  t12 = t12;
}
