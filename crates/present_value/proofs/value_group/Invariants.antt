-- `present_value::value_group` meets its contract. The invariant: the table has the numbers of the years before k.
-- The measure is the number of years left. Assumes nothing.
use mathlib.Core.Path.{◌≡◌}
use mathlib.Core.List.{List, ◌++◌}
use Prim.Native.Nat.{ℕ, ◌-◌, ◌*◌, ◌≤◌}
use lib.ListN.{drop}
use Rattle.settings_decrements.specs.Decrements.{decrements_of}
use Rattle.valuation.specs.Steps.{Cell, Terms}
use Rattle.valuation.specs.Portfolio.{terms_of, group_cells}
use Rattle.valuation.specs.Replies.{year_table}
use Rattle.present_value.proofs.value_group.Given as goal

-- the terms and the cells of a group in a setting
abbrev pub terms : List ℕ → ℕ → ℕ → Terms
terms b s g = terms_of b s g

abbrev pub cells : List ℕ → ℕ → ℕ → List Cell
cells b s g = group_cells b (decrements_of b s) g

abbrev pub invariant-loop-k : goal.invariant-loop-k
invariant-loop-k l =
    (l.k ≤ 50)
    × (l.table ≡ year_table (terms l.book l.setting l.group) (cells l.book l.setting l.group) l.k
    ++ drop (4 * l.k) l.initial.table)

abbrev pub decreases-loop-k : goal.decreases-loop-k
decreases-loop-k l = 50 - l.k
