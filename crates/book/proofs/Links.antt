-- Laws of linked records: steps along a chain. Assumes nothing.
use mathlib.Core.Path.{◌≡◌, refl}
use mathlib.Core.List.{List}
use Prim.Native.Nat.{ℕ, zero, suc, ◌<◌}
use native.Mathlib.Omega.{arith}
use borrow.Author.Tests.{ne_eqb}
use Rattle.book.specs.Layout.{next_of, record_after, link_from}

pub after_some : (b : List ℕ) (i : ℕ) → 0 < i → record_after b i ≡ next_of b i
after_some b i h = rw (ne_eqb i 0 (λ z. absurd (omega arith)))

-- no record is linked past the end
pub link_none : (b : List ℕ) (j : ℕ) → link_from b 0 j ≡ 0
unfolding link_from
link_none b zero = refl
link_none b (suc j) = link_none b j

-- one step more
pub link_more : (b : List ℕ) (i j : ℕ) → link_from b i (suc j) ≡ record_after b (link_from b i j)
unfolding link_from
link_more b i zero = refl
link_more b i (suc j) = link_more b (record_after b i) j

-- the steps from the next record on are those from this one, after the first
pub link_next : (b : List ℕ) (i j : ℕ) → 0 < i → link_from b i (suc j) ≡ link_from b (next_of b i) j
unfolding link_from
link_next b i j h = rw (after_some b i h)
