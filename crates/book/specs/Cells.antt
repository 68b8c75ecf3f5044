-- n is document 01's term: how many linked records hold contracts, that is, have a count that is not 0.
use Rattle.std.specs.Prelude.{cond, ℕ, zero, suc, ◌+◌, ◌*◌, List, eqb}
use Rattle.lists.specs.Sums.{sum_below, sum_from}
use Rattle.book.specs.Layout.{chains, head_of, field_of, count_offset, record_after}

-- 1 where record i holds contracts; 0 where its count is 0, and for no record
unfoldable pub holds : List ℕ → ℕ → ℕ
holds b i = cond (eqb i 0) 0 (cond (eqb (field_of b i count_offset) 0) 0 1)

-- of the first m records along the chain from record i
unfoldable pub held_from : List ℕ → ℕ → ℕ → ℕ
held_from b i zero = 0
held_from b i (suc m) = holds b i + held_from b (record_after b i) m

-- n of chain k, which has at most one record for each class from 0 to last
unfoldable pub held_in : List ℕ → ℕ → ℕ → ℕ
held_in b last k = held_from b (head_of b k) (last + 1)

-- Product group g, 1 to 5: PG1 has the chains of codes 1, 2 and 3, each later group those of one code.
abbrev pub first_chain : ℕ → ℕ
first_chain g = cond (eqb g 1) 0 (2 * g + 2)

abbrev pub chains_of : ℕ → ℕ
chains_of g = cond (eqb g 1) 6 2

-- n of product group g
unfoldable pub held_of_group : List ℕ → ℕ → ℕ → ℕ
held_of_group b last g = sum_from (held_in b last) (first_chain g) (chains_of g)

-- n over all groups
unfoldable pub held_in_all : List ℕ → ℕ → ℕ
held_in_all b last = sum_below (held_in b last) chains
