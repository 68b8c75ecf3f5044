-- The record that holds for a cell keeps its rules in each year, and the chain goes on from it. Assumes nothing.
use mathlib.Core.Path.{◌≡◌, refl}
use mathlib.Core.List.{List}
use mathlib.Core.Bool.{Bool, true, false, cond}
use Prim.Native.Nat.{ℕ, zero, suc, ◌+◌, ◌-◌, ◌<◌, ◌≤◌}
use native.Mathlib.Omega.{arith}
use borrow.Author.Tests.{ltb-true}
use lib.Dec.{ltb}
use Rattle.book.specs.Layout.{last_class, class_of, next_of}
use Rattle.book.specs.Reading.{ChainFrom, Standing}
use Rattle.book.proofs.Valid.{chain_here, chain_class, chain_next}
use Rattle.valuation.specs.Portfolio.{onward, row_at}

module _ (b : List ℕ) (k : ℕ) where
  pub chain_standing : (left i : ℕ) → ChainFrom b (last_class 1) k left i → left ≤ last_class 1
      → Standing b (last_class 1) k i
  chain_standing left i h fits =
      let same : left ≡ last_class 1 - class_of b i = omega (arith, chain_class b (last_class 1) k left i h) in
      (chain_here b (last_class 1) k left i h, rw same at h)

  module _ (i : ℕ) (s : Standing b (last_class 1) k i) (young : class_of b i < last_class 1) where
    next_chain : ChainFrom b (last_class 1) k (last_class 1 - class_of b i - 1) (next_of b i)
    next_chain = chain_next b (last_class 1) k (last_class 1 - class_of b i) _ i (omega arith) s.1

    pub next_standing : Standing b (last_class 1) k (next_of b i)
    next_standing = chain_standing _ (next_of b i) next_chain (omega arith)

    pub row_class : class_of b (next_of b i) ≡ class_of b i + 1
    row_class = omega (arith, chain_class b (last_class 1) k _ (next_of b i) next_chain)

  pub onward_standing : (r : ℕ) → Standing b (last_class 1) k r → Standing b (last_class 1) k (onward b r)
  onward_standing r s = by_class (ltb (class_of b r) (last_class 1)) refl
    where
      by_class : (t : Bool) → ltb (class_of b r) (last_class 1) ≡ t → Standing b (last_class 1) k
          (cond t (next_of b r) r)
      by_class true e = next_standing r s (ltb-true _ _ e)
      by_class false e = s

  pub row_standing : (i : ℕ) → Standing b (last_class 1) k i → (j : ℕ) → Standing b (last_class 1) k (row_at b i j)
  unfolding row_at
  row_standing i s zero = s
  row_standing i s (suc j) = onward_standing _ (row_standing i s j)
