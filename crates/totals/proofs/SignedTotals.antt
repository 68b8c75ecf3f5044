-- Laws of the eight totals over all groups, and of their differences with a sign. Assumes nothing.
use mathlib.Core.Path.{◌≡◌, refl, ap, ◌∙◌}
use mathlib.Core.List.{List}
use mathlib.Core.Bool.{Bool, true, false}
use Prim.Native.Nat.{ℕ, ◌<◌, ◌≤◌, ◌^◌}
use native.Mathlib.Omega.{arith}
use lib.Dec.{ltb}
use lib.IntN.{ℤ, pos, ◌-ℤ◌}
use lib.ListN.{get_or, replicate, get_or-replicate, get_or-eq_default}
use lib.Seq.{ext_get_or}
use lib.Signed.{mag}
use mir.Syntax.{w64}
use mir.Val.{to_z, of_z, hbits}
use borrow.Author.Tests.{ltb-true, ltb-false}
use Rattle.lists.specs.Sums.{sum_by}
use Rattle.settings.proofs.Weights.{each_setting}
use Rattle.signed.proofs.Sizes.{signed_roundtrip}
use Rattle.valuation.specs.Totals.{total_of, totals_of}
use Rattle.totals_group.specs.Sums.{Sum, Sums}
use Rattle.totals.specs.Sizes.{Sizes}

-- no group yet
sum_none : (b : List ℕ) (setting : ℕ) → Sum b setting 0 (pos 0)
unfolding sum_by
sum_none b setting = record { is = refl; most = omega arith }

pub sums_none : (b : List ℕ) → Sums b 0 (replicate 8 (pos 0))
sums_none b = record { size = refl; each = λ j h. rw (get_or-replicate 8 j (pos 0) (pos 0) h) (sum_none b j) }

-- the eight sums over all five groups are the totals
pub eight : (b : List ℕ) (t : List ℤ) → Sums b 5 t → (t ≡ totals_of b) × Sizes t
unfolding total_of
eight b t s = (
  ext_get_or (pos 0) t (totals_of b) s.size (λ i h. at i (omega (arith, s.size))),
  λ j. sizes j (ltb j 8) refl,
)
  where
    sizes : (j : ℕ) (low : Bool) → ltb j 8 ≡ low → mag (get_or t j (pos 0)) ≤ 2_475_000_000_000_000_005
    sizes j true e = omega (arith, (s.each j (ltb-true j 8 e)).most)
    sizes j false e =
        rw (get_or-eq_default t (pos 0) {n = j} (omega (arith, s.size, ltb-false j 8 e))) (omega arith)

    at : (i : ℕ) → i < 8 → get_or t i (pos 0) ≡ get_or (totals_of b) i (pos 0)
    at = each_setting (λ i. get_or t i (pos 0) ≡ get_or (totals_of b) i (pos 0))
        (s.each 0 (omega arith)).is (s.each 1 (omega arith)).is (s.each 2 (omega arith)).is
        (s.each 3 (omega arith)).is
        (s.each 4 (omega arith)).is (s.each 5 (omega arith)).is (s.each 6 (omega arith)).is
        (s.each 7 (omega arith)).is

-- one of them, read from the row
module _ (b : List ℕ) (t : List ℤ) (h : (t ≡ totals_of b) × Sizes t) (j : ℕ) where
  pub total_small : mag (to_z w64 (of_z w64 (get_or t j (pos 0)))) ≤ 2_475_000_000_000_000_005
  total_small = rw (signed_roundtrip (get_or t j (pos 0)) (omega (arith, h.1 j))) (h.1 j)

  pub total_at : to_z w64 (of_z w64 (get_or t j (pos 0))) ≡ get_or (totals_of b) j (pos 0)
  total_at = signed_roundtrip (get_or t j (pos 0)) (omega (arith, h.1 j)) ∙ ap (λ (l : List ℤ). get_or l j (pos 0)) h.0

-- a difference of two of them
pub difference_is : (a b x y r : ℤ) → mag r < 2 ^ hbits w64 → r ≡ x -ℤ y → x ≡ a → y ≡ b
    → to_z w64 (of_z w64 r) ≡ a -ℤ b
difference_is a b x y r ok e ex ey = signed_roundtrip r ok ∙ e ∙ rw (ex, ey)
