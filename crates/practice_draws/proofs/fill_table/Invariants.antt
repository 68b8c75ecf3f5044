-- `practice_draws::fill_table` meets its contract. The invariant: the numbers passed are drawn, and the words are as
-- many draws on. Assumes nothing.
use mathlib.Core.Path.{◌≡◌}
use Prim.Native.Nat.{ℕ}
use lib.ListN.{length}
use Rattle.generator.specs.Draws.{state_after, draw_at}
use Rattle.practice_contents.specs.Drawn.{drawn_number}
use Rattle.practice_draws.proofs.DrawnLists.{Filled}
use Rattle.practice_draws.proofs.fill_table.Given as goal

abbrev pub invariant-loop-number : goal.invariant-loop-number
invariant-loop-number l =
    (l.words ≡ state_after l.initial.words l.number-index)
    × Filled (λ (i : ℕ). drawn_number l.span (draw_at l.initial.words i)) (length l.initial.list) l.list l.number-index
