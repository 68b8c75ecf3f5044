-- Books as trial figures T7 to T10 ask for them exist. Assumes nothing.
use mathlib.Core.Path.{◌≡◌, refl}
use mathlib.Core.List.{List, [], ◌∷◌, ◌++◌}
use Prim.Native.Nat.{ℕ, zero, suc}
use native.Mathlib.Omega.{arith}
use borrow.Author.Tests.{eqb-true}
use lib.Dec.{eqb, lit≤}
use lib.ListN.{replicate}
use Rattle.conditions.specs.Every.{every}
use Rattle.conditions.proofs.Every.{every_holds}
use Rattle.le_bytes.specs.Bytes.{read_u16, read_u32}
use Rattle.book.specs.Layout.{edition, class_of, next_of, field_of, lapse_offset}
use Rattle.valuation.specs.Portfolio.{mortality_of, onward, row_at}
use Rattle.valuation.specs.TestVectors.{OneMan}

unfoldable pub times : ℕ → List ℕ → List ℕ
times zero xs = []
times (suc n) xs = xs ++ times n xs

-- a record of one man
unfoldable pub man_at : ℕ → ℕ → List ℕ → List ℕ
man_at class next lapse = 1 ∷ 0 ∷ class ∷ 0 ∷ next ∷ 0 ∷ 0 ∷ 0 ∷ 1 ∷ 0 ∷ 0 ∷ 0 ∷ lapse ++ replicate 8 0

-- one man in each of the classes 118 to 120
unfoldable pub trial_book : List ℕ → List ℕ → List ℕ
trial_book mortality lapse =
    (1 ∷ 1 ∷ 232 ∷ 7 ∷ 3 ∷ 0 ∷ 0 ∷ 0 ∷ 1 ∷ 0 ∷ replicate 242 0) ++ times 121 mortality ++ replicate 484 0
    ++ man_at 118 2 lapse ++ man_at 119 3 lapse ++ man_at 120 0 lapse

-- mortality 1,000,000 and no lapse; no deaths and lapse 333,333
unfoldable pub deadly : List ℕ
deadly = trial_book (64 ∷ 66 ∷ 15 ∷ 0 ∷ []) (replicate 4 0)

unfoldable pub leaving : List ℕ
leaving = trial_book (replicate 4 0) (21 ∷ 22 ∷ 5 ∷ 0 ∷ [])

-- the cell of record 1 comes to record 3 in its third year, and stays there
module _ (b : List ℕ) (third : row_at b 1 2 ≡ 3) (last : onward b 3 ≡ 3) where
  rows : (k : ℕ) → row_at b 1 (suc (suc k)) ≡ 3
  unfolding row_at
  rows zero = third
  rows (suc k) = rw (rows k) last

  lapses : (lapse : ℕ) → field_of b (row_at b 1 0) lapse_offset ≡ lapse → field_of b (row_at b 1 1) lapse_offset ≡ lapse
      → field_of b 3 lapse_offset ≡ lapse
      → (k : ℕ) → field_of b (row_at b 1 k) lapse_offset ≡ lapse
  lapses lapse l₁ l₂ l₃ zero = l₁
  lapses lapse l₁ l₂ l₃ (suc zero) = l₂
  lapses lapse l₁ l₂ l₃ (suc (suc k)) = rw (rows k) l₃

pub deadly_edition : edition deadly ≡ 1
unfolding deadly trial_book
deadly_edition = refl

pub deadly_man : OneMan deadly 1 1_000_000 0
unfolding deadly trial_book man_at times every read_u16 read_u32 class_of next_of field_of mortality_of row_at
deadly_man = record {
  one = refl;
  man = refl;
  young = lit≤ tt;
  ages = refl;
  dies = λ class old. eqb-true _ _
      (every_holds (λ c. eqb (mortality_of deadly 0 c) 1_000_000) 121 class refl (omega arith));
  leaves = lapses deadly refl refl 0 refl refl refl;
}

pub leaving_man : OneMan leaving 1 0 333_333
unfolding leaving trial_book man_at times every read_u16 read_u32 class_of next_of field_of mortality_of row_at
leaving_man = record {
  one = refl;
  man = refl;
  young = lit≤ tt;
  ages = refl;
  dies = λ class old. eqb-true _ _ (every_holds (λ c. eqb (mortality_of leaving 0 c) 0) 121 class refl (omega arith));
  leaves = lapses leaving refl refl 333_333 refl refl refl;
}
