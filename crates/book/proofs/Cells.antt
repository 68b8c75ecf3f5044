-- Laws of n. Assumes nothing.
use mathlib.Core.Path.{◌≡◌, refl}
use mathlib.Core.List.{List}
use mathlib.Core.Bool.{Bool, true, false, cond}
use Prim.Native.Nat.{ℕ, zero, suc, ◌<◌, ◌≤◌}
use native.Mathlib.Omega.{arith}
use borrow.Author.Tests.{ne_eqb}
use lib.Dec.{eqb}
use Rattle.lists.specs.Sums.{sum_by, sum_from}
use Rattle.book.specs.Layout.{field_of, count_offset}
use Rattle.book.specs.Cells.{holds, held_from, held_of_group, held_in_all}

pub holds_some : (b : List ℕ) (i : ℕ) → 0 < i → holds b i ≡ cond (eqb (field_of b i count_offset) 0) 0 1
unfolding holds
holds_some b i h = rw (ne_eqb i 0 (λ z. absurd (omega arith)))

pick_one : (t u : Bool) → cond t 0 (cond u 0 1) ≤ 1
pick_one true u = omega arith
pick_one false true = omega arith
pick_one false false = omega arith

pub holds_one : (b : List ℕ) (i : ℕ) → holds b i ≤ 1
unfolding holds
holds_one b i = pick_one (eqb i 0) (eqb (field_of b i count_offset) 0)

-- past the end of a chain nothing is counted
pub held_none : (b : List ℕ) (m : ℕ) → held_from b 0 m ≡ 0
unfolding held_from holds
held_none b zero = refl
held_none b (suc m) = rw (held_none b m)

-- the five groups' n together are n over all groups
pub groups_held : (b : List ℕ) (last : ℕ) → sum_from (held_of_group b last) 1 5 ≡ held_in_all b last
unfolding sum_by held_of_group held_in_all
groups_held b last = omega arith
