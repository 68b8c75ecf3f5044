-- The linked records of a chain, by 'next' and by counting classes, are the same list; and the cells of a group that
-- hold contracts are n. Assumes nothing.
use mathlib.Core.Path.{◌≡◌, refl, ap}
use mathlib.Core.List.{List, [], ◌∷◌, ◌++◌}
use mathlib.Core.Bool.{Bool, true, false, cond}
use Prim.Native.Nat.{ℕ, zero, suc, ◌+◌, ◌<◌}
use native.Mathlib.Omega.{arith}
use borrow.Author.Tests.{ne_eqb}
use lib.Dec.{eqb}
use Rattle.lists.specs.Sums.{sum_by, sum_from}
use Rattle.lists.proofs.Sums.{sum_first}
use Rattle.book.specs.Layout.{last_class, head_of, next_of, field_of, count_offset}
use Rattle.book.specs.Cells.{holds, held_from, held_in, held_of_group, first_chain, chains_of}
use Rattle.book.specs.Reading.{ChainFrom}
use Rattle.book.proofs.Cells.{held_none}
use Rattle.book.proofs.Valid.{chain_here, chain_end, chain_next}
use Rattle.settings_decrements.specs.Decrements.{Decrements}
use Rattle.valuation.specs.Steps.{Cell, held, one_unless}
use Rattle.valuation.specs.Portfolio.{cell_of, links_from, chain_links, links_of, cells_of, group_cells}

-- record i and the left records after it
unfoldable pub counted : List ℕ → ℕ → ℕ → List ℕ
counted b zero i = i ∷ []
counted b (suc left) i = i ∷ counted b left (next_of b i)

-- past the end of a chain there is no record
links_none : (b : List ℕ) (m : ℕ) → links_from b 0 m ≡ []
unfolding links_from
links_none b zero = refl
links_none b (suc m) = refl

links_some : (b : List ℕ) (i m : ℕ) → 0 < i → links_from b i (suc m) ≡ i ∷ links_from b (next_of b i) m
unfolding links_from
links_some b i m some = rw (ne_eqb i 0 (λ z. absurd (omega arith)))

pub links_counted : (b : List ℕ) (k left i m : ℕ) → ChainFrom b (last_class 1) k left i → left < m
    → links_from b i m ≡ counted b left i
unfolding counted
links_counted b k left i zero h fits = absurd (omega arith)
links_counted b k zero i (suc m) h fits =
    rw (
      links_some b i m (chain_here b (last_class 1) k zero i h).first,
      chain_end b (last_class 1) k zero i refl h,
      links_none b m,
    )
links_counted b k (suc left) i (suc m) h fits =
    rw (
      links_some b i m (chain_here b (last_class 1) k (suc left) i h).first,
      links_counted b k left (next_of b i) m (chain_next b (last_class 1) k (suc left) left i (omega arith) h)
          (omega arith),
    )

pub held_append : (cs ds : List Cell) → held (cs ++ ds) ≡ held cs + held ds
unfolding held
held_append [] ds = omega arith
held_append (c ∷ cs) ds = omega (arith, held_append cs ds)

module _ (b : List ℕ) (w : Decrements) where
  pub cells_append : (xs ys : List ℕ) → cells_of b w (xs ++ ys) ≡ cells_of b w xs ++ cells_of b w ys
  unfolding cells_of
  cells_append [] ys = refl
  cells_append (x ∷ xs) ys = ap (λ (cs : List Cell). cell_of b w x ∷ cs) (cells_append xs ys)

  pub held_links : (m i : ℕ) → held (cells_of b w (links_from b i m)) ≡ held_from b i m
  unfolding held cells_of cell_of links_from held_from holds
  held_links zero i = refl
  held_links (suc m) i = by_end (eqb i 0) (held_links m (next_of b i))
    where
      one : (t : Bool) → one_unless t ≡ cond t 0 1
      one true = refl
      one false = refl

      by_end : (t : Bool)
          → held (cells_of b w (links_from b (next_of b i) m)) ≡ held_from b (next_of b i) m
          → held (cells_of b w (cond t [] (i ∷ links_from b (next_of b i) m)))
          ≡ cond t 0 (cond (eqb (field_of b i count_offset) 0) 0 1) + held_from b (cond t 0 (next_of b i)) m
      by_end true rest = rw (held_none b m)
      by_end false rest = rw (one (eqb (field_of b i count_offset) 0), rest)

  held_chains : (left k : ℕ) → held (cells_of b w (links_of b k left)) ≡ sum_from (held_in b (last_class 1)) k left
  unfolding held cells_of links_of sum_by held_in
  held_chains zero k = refl
  held_chains (suc left) k =
      rw (
        cells_append (chain_links b k) (links_of b (k + 1) left),
        held_append,
        held_links _ (head_of b k),
        held_chains left (k + 1),
        sum_first (held_in b (last_class 1)) k left,
      )

  pub held_group : (g : ℕ) → held (group_cells b w g) ≡ held_of_group b (last_class 1) g
  unfolding held_of_group
  held_group g = held_chains (chains_of g) (first_chain g)
