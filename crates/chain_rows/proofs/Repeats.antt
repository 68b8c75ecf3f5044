-- The last row of a chain, repeated: at the last class the same record holds. Assumes nothing.
use mathlib.Core.Path.{◌≡◌, refl, sym, ◌∙◌}
use mathlib.Core.Bool.{Bool, true, false}
use mathlib.Core.List.{List}
use Prim.Native.Nat.{ℕ, zero, suc, ◌+◌, ◌-◌, ◌*◌, ◌≤◌, ◌<◌}
use native.Mathlib.Omega.{arith}
use borrow.Author.Count.{below_more}
use borrow.Author.Tests.{ltb-true, ltb-false, le-ltb}
use lib.Dec.{ltb}
use lib.ListN.{length, get_or, set}
use lib.Seq.{get_or-set_same, get_or-set_other}
use Rattle.book.specs.Layout.{chain_sex, class_of}
use Rattle.book.specs.Reading.{Standing}
use Rattle.valuation.specs.Portfolio.{row_at}
use Rattle.valuation.proofs.Oldest.{class_reached}
use Rattle.rate_table.specs.Rows.{RowOf, RowsOf}
use Rattle.rate_table.proofs.Puts.{row_same, row_kept}
use Rattle.chain_rows.specs.Chain.{RowsBelow, Repeated}

pub repeated_none : (t : List ℕ) (from : ℕ) → Repeated t t from from
repeated_none t from = record { kept = λ j l. refl; copied = λ j h l. absurd (omega arith) }

-- a number more
pub repeated_more : (before t : List ℕ) (from j : ℕ) → 16 ≤ from → from ≤ j → j < length t → Repeated before t from j
    → Repeated before (set t j (get_or t (j - 16) 0)) from (j + 1)
repeated_more before t from j some late inside p =
    let other : (k : ℕ) → k < j → get_or (set t j (get_or t (j - 16) 0)) k 0 ≡ get_or t k 0 =
    λ k l. get_or-set_other t j k _ 0 (λ q. omega arith) in
    record {
      kept = λ k l. other k (omega arith) ∙ p.kept k l;
      copied = λ k h l.
          below_more
          (λ n. from ≤ n
          → get_or (set t j (get_or t (j - 16) 0)) n 0 ≡ get_or (set t j (get_or t (j - 16) 0)) (n - 16) 0)
          j
          (λ n g f. other n g ∙ p.copied n f g ∙ sym (other (n - 16) (omega arith)))
          (λ f. get_or-set_same t j _ 0 inside ∙ sym (other (j - 16) (omega arith))) k l h;
    }

module _ (b : List ℕ) (chain i : ℕ) (s : Standing b 120 chain i) where
  -- at the last class
  persists : (r : ℕ) → 120 ≤ class_of b i + r → row_at b i (suc r) ≡ row_at b i r
  unfolding row_at
  persists r h = rw (le-ltb (class_of b (row_at b i r)) 120 (omega (arith, class_reached b chain i s r)))

  -- the linked records' rows, and the last one from there on
  pub rows_repeated : (t u : List ℕ) → RowsBelow b chain i t (121 - class_of b i)
      → Repeated t u (16 * (121 - class_of b i)) (16 * (170 - class_of b i)) → RowsOf b chain i u
  rows_repeated t u h p = each
    where
      read : (r : ℕ) → r < 121 - class_of b i → RowOf b (chain_sex chain) (row_at b i r) u r
      read r l = row_kept b (chain_sex chain) (row_at b i r) t u r (121 - class_of b i) l p.kept (h r l)

      -- what stands a row later
      again : (j k : ℕ) → j ≡ k + 16 → 16 * (121 - class_of b i) ≤ j → j < 16 * (170 - class_of b i)
          → get_or u j 0 ≡ get_or u k 0
      again j k e g l =
          let back : k ≡ j - 16 = omega arith in
          rw back (p.copied j g l)

      onward : (r : ℕ) → suc r < 170 - class_of b i → RowOf b (chain_sex chain) (row_at b i r) u r
          → (t : Bool) → ltb (suc r) (121 - class_of b i) ≡ t → RowOf b (chain_sex chain) (row_at b i (suc r)) u (suc r)
      onward r l o true e = read (suc r) (ltb-true _ _ e)
      onward r l o false e =
          let g : 121 - class_of b i ≤ suc r = ltb-false _ _ e in
          rw (persists r (omega arith))
          (row_same b (chain_sex chain) (row_at b i r) u u r (suc r)
          (λ c k. again _ _ (omega arith) (omega arith) (omega arith))
          (λ c k. again _ _ (omega arith) (omega arith) (omega arith)) o)

      each : (r : ℕ) → r < 170 - class_of b i → RowOf b (chain_sex chain) (row_at b i r) u r
      each zero l = read zero (omega (arith, s.0.class_high))
      each (suc r) l = onward r l (each r (omega arith)) (ltb (suc r) (121 - class_of b i)) refl
