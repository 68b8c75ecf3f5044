-- The record that holds for a row of a chain, from one row to the next, and the rows filled so far. Assumes nothing.
use mathlib.Core.Path.{◌≡◌, refl, sym, ◌∙◌}
use mathlib.Core.List.{List}
use Prim.Native.Nat.{ℕ, ◌+◌, ◌≤◌, ◌<◌}
use native.Mathlib.Numerals.{add-one}
use borrow.Author.Count.{below_more}
use borrow.Author.Tests.{lt-ltb, le-ltb}
use Rattle.book.specs.Layout.{class_of, next_of}
use Rattle.book.specs.Reading.{Standing}
use Rattle.valuation.specs.Portfolio.{row_at}
use Rattle.valuation.proofs.Rows.{next_standing, row_class}
use Rattle.rate_table.specs.Rows.{RowOf}
use Rattle.rate_table.specs.Puts.{RowPut}
use Rattle.rate_table.proofs.Puts.{row_kept}

-- record `row`, of a class, holds for row r of the rows from record i on
pub record Reached (b : List ℕ) (chain i r row class : ℕ) : Type 0 where
  pub row_is : row ≡ row_at b i r
  pub class_is : class ≡ class_of b row
  pub standing : Standing b 120 chain row

module _ (b : List ℕ) (chain i : ℕ) where
  pub reached_first : (class : ℕ) → class ≡ class_of b i → Standing b 120 chain i → Reached b chain i 0 i class
  unfolding row_at
  reached_first class e s = record { row_is = refl; class_is = e; standing = s }

  module _ (r row class : ℕ) (h : Reached b chain i r row class) where
    young : class < 120 → class_of b row < 120
    young l = rw h.class_is at l

    next_is : class < 120 → next_of b row ≡ row_at b i (r + 1)
    unfolding row_at
    next_is l = rw (add-one r, ← h.row_is, lt-ltb (class_of b row) 120 (young l))

    pub reached_next : (row' class' : ℕ) → class < 120 → row' ≡ next_of b row → class' ≡ class + 1
        → Reached b chain i (r + 1) row' class'
    reached_next row' class' l e f =
        rw e
        (record {
          row_is = next_is l;
          class_is = f ∙ rw h.class_is (sym (row_class b chain row h.standing (young l)));
          standing = next_standing b chain row h.standing (young l);
        })

    old : 120 ≤ class → 120 ≤ class_of b row
    old l = rw h.class_is at l

    same_is : 120 ≤ class → row ≡ row_at b i (r + 1)
    unfolding row_at
    same_is l = rw (add-one r, ← h.row_is, le-ltb (class_of b row) 120 (old l))

    pub reached_same : (row' class' : ℕ) → 120 ≤ class → row' ≡ row → class' ≡ class
        → Reached b chain i (r + 1) row' class'
    reached_same row' class' l e f =
        rw (e, f) (record { row_is = same_is l; class_is = h.class_is; standing = h.standing })

-- a row more: f says the record of each row
pub rows_more : (b : List ℕ) (sex : ℕ) (f : ℕ → ℕ) (t u : List ℕ) (r row : ℕ) → row ≡ f r
    → ((j : ℕ) → j < r → RowOf b sex (f j) t j) → RowPut b sex row t u r → (j : ℕ) → j < r + 1 → RowOf b sex (f j) u j
rows_more b sex f t u r row e h p =
    below_more (λ j. RowOf b sex (f j) u j) r (λ j l. row_kept b sex (f j) t u j r l p.kept (h j l))
    (rw (← e) p.row)
