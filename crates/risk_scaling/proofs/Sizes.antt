-- A scaled factor by its size and sign, and the space that it needs; factors that pass 30. Assumes nothing.
use mathlib.Core.Path.{◌≡◌, refl, sym, ap, ◌∙◌}
use Prim.Native.Nat.{ℕ, zero, suc, ◌+◌, ◌*◌, ◌/◌, ◌≤◌, ◌<◌}
use mathlib.Core.Bool.{true}
use mathlib.Core.List.{List}
use lib.Dec.{leb}
use borrow.Author.Tests.{leb-true}
use native.Mathlib.Omega.{arith}
use native.Mathlib.Nat.{div-le_of_le-mul, zero-mul, zero-div}
use lib.IntN.{ℤ, pos, negsuc, neg_ℤ, nat_abs, ◌*ℤ◌}
use lib.Signed.{quot_z}
use Rattle.arith.proofs.Division.{product_le}
use Rattle.conditions.proofs.Every.{every_holds}
use Rattle.signed.specs.Signs.{number_at, with_sign, SizesTo}
use Rattle.risk_scaling.specs.Factors.{scaled_of, factors_small}

-- a factor is the size of its difference, scaled, with the difference's sign
neg_times : (q c : ℕ) → neg_ℤ (pos q) *ℤ pos c ≡ neg_ℤ (pos (q * c))
neg_times zero c = ap pos (zero-mul c) ∙ sym (ap (λ (n : ℕ). neg_ℤ (pos n)) (zero-mul c))
neg_times (suc q) c = refl

neg_quot : (x d : ℕ) → quot_z (neg_ℤ (pos x)) (pos d) ≡ neg_ℤ (pos (x / d))
neg_quot zero d = ap pos (zero-div d) ∙ sym (ap (λ (n : ℕ). neg_ℤ (pos n)) (zero-div d))
neg_quot (suc x) d = refl

pub scaled_sign : (d : ℤ) (c span : ℕ) → with_sign d (nat_abs d / 100000 * c / (1000 * span)) ≡ scaled_of d c span
unfolding with_sign scaled_of
scaled_sign (pos n) c span = refl
scaled_sign (negsuc n) c span =
    sym
    (ap (λ (z : ℤ). quot_z z (pos (1000 * span))) (neg_times (suc n / 100000) c)
    ∙ neg_quot (suc n / 100000 * c) (1000 * span))

-- whatever 64 bits hold of a difference, no step of its factor passes 64 bits: its hundred-thousandth m is this at most
module _ (m c span : ℕ) (few : m ≤ 92233720368548) (small : c ≤ 1000000) (low : 50 ≤ span) (high : span ≤ 600) where
  pub scaled_capacity : m / (1000 * span) * c + 1000 * span * c < 18446744073709551616
  scaled_capacity =
      let q : m / (1000 * span) ≤ 1844674408 = div-le_of_le-mul (1000 * span) (omega arith) in
      omega (
        arith,
        product_le {a = m / (1000 * span)} {b = c} 1844674408 1000000 q small,
        product_le {a = 1000 * span} {b = c} 600000 1000000 (omega arith) small,
      )

  pub scaled_most : m * c / (1000 * span) ≤ 2000000000000000
  scaled_most =
      div-le_of_le-mul (1000 * span) (omega (arith, product_le {a = m} {b = c} 92233720368548 1000000 few small))

-- 30 passed
pub factors_most : (f : List ℤ) → factors_small f ≡ true → SizesTo 1000000 4 f
unfolding factors_small
factors_most f e i h = leb-true _ _ (every_holds (λ (i : ℕ). leb (nat_abs (number_at f i)) 1000000) 4 i e h)
