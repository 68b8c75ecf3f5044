-- The very old stay insured: in year k a cell of class x is at class x + k or, from there on, at the last class, with
-- that class's record, rates and amounts. Assumes nothing.
use mathlib.Core.Path.{◌≡◌, refl, ap}
use mathlib.Core.Bool.{Bool, true, false, cond}
use mathlib.Core.List.{List}
use Prim.Native.Nat.{ℕ, zero, suc, ◌+◌, min}
use native.Mathlib.Nat.{add-zero, add-suc}
use native.Mathlib.Omega.{arith}
use borrow.Author.Tests.{ltb-true, ltb-false, le-ltb}
use lib.Dec.{ltb}
use Rattle.book.specs.Layout.{last_class, sex_of, class_of, next_of, field_of, lapse_offset, premium_offset}
use Rattle.book.specs.Layout.{claims_offset}
use Rattle.book.specs.Reading.{Standing}
use Rattle.settings_decrements.specs.Decrements.{mortality_in, lapse_in}
use Rattle.settings_decrements.specs.Decrements.{Decrements}
use Rattle.valuation.specs.Portfolio.{mortality_of, one_less, onward, row_at, cell_of}
use Rattle.valuation.proofs.Rows.{row_standing, row_class}

-- class x after k years
abbrev pub class_after : ℕ → ℕ → ℕ
class_after x k = min (x + k) (last_class 1)

-- linked records of a chain
module _ (b : List ℕ) (chain : ℕ) where
  onward_class : (r : ℕ) → Standing b (last_class 1) chain r → class_of b (onward b r) ≡ class_after (class_of b r) 1
  onward_class r s = by_class (ltb (class_of b r) (last_class 1)) refl
    where
      by_class : (t : Bool) → ltb (class_of b r) (last_class 1) ≡ t
          → class_of b (cond t (next_of b r) r) ≡ class_after (class_of b r) 1
      by_class true e =
          let young = ltb-true (class_of b r) (last_class 1) e in
          omega (arith, young, row_class b chain r s young)
      by_class false e = omega (arith, ltb-false (class_of b r) (last_class 1) e, s.0.class_high)

  pub class_reached : (i : ℕ) → Standing b (last_class 1) chain i
      → (k : ℕ) → class_of b (row_at b i k) ≡ class_after (class_of b i) k
  unfolding row_at
  class_reached i s zero = omega (arith, s.0.class_high)
  class_reached i s (suc k) =
      omega (arith, onward_class (row_at b i k) (row_standing b chain i s k), class_reached i s k)

  -- so its deaths are those of that class
  pub survival_reached : (w : Decrements) (i : ℕ) → Standing b (last_class 1) chain i → (k : ℕ)
      → (cell_of b w i).survival k
      ≡ one_less (mortality_of b (sex_of b i) (class_after (class_of b i) k)) (mortality_in w (sex_of b i) k)
  unfolding cell_of
  survival_reached w i s k = rw (class_reached i s k)

-- the cell of record i is at the last class in year k: j years later it goes by the same record
module _ (b : List ℕ) (i k : ℕ) (old : class_of b (row_at b i k) ≡ last_class 1) where
  pub row_stays : (j : ℕ) → row_at b i (k + j) ≡ row_at b i k
  unfolding row_at
  row_stays zero = rw (add-zero k)
  row_stays (suc j) = rw (add-suc k j, row_stays j, le-ltb (class_of b (row_at b i k)) (last_class 1) (omega arith))

  module _ (w : Decrements) (j : ℕ) where
    pub survival_stays : (cell_of b w i).survival (k + j)
        ≡ one_less (mortality_of b (sex_of b i) (last_class 1)) (mortality_in w (sex_of b i) (k + j))
    unfolding cell_of
    survival_stays = rw (row_stays j, old)

    pub persistency_stays : (cell_of b w i).persistency (k + j)
        ≡ one_less (field_of b (row_at b i k) lapse_offset) (lapse_in w (k + j))
    unfolding cell_of
    persistency_stays = rw (row_stays j)

    pub premium_stays : (cell_of b w i).premium (k + j) ≡ field_of b (row_at b i k) premium_offset
    unfolding cell_of
    premium_stays = ap (λ (r : ℕ). field_of b r premium_offset) (row_stays j)

    pub claims_stays : (cell_of b w i).claims (k + j) ≡ field_of b (row_at b i k) claims_offset
    unfolding cell_of
    claims_stays = ap (λ (r : ℕ). field_of b r claims_offset) (row_stays j)
