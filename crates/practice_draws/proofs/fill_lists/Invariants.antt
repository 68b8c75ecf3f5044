-- `practice_draws::fill_lists` meets its contract. The invariant: the first i numbers of each list are drawn, and the
-- words are four draws on for each. The measure is how many are left. Assumes nothing.
use mathlib.Core.Path.{◌≡◌}
use Prim.Native.Nat.{ℕ, ◌+◌, ◌-◌, ◌*◌, ◌≤◌}
use Rattle.book.specs.Layout.{most_count, most_rate, most_amount}
use Rattle.generator.specs.declared.GeneratorState.{GeneratorState}
use Rattle.generator.specs.Draws.{state_after, draw_at}
use Rattle.practice_contents.specs.Drawn.{drawn_number}
use Rattle.practice_draws.proofs.DrawnLists.{Filled}
use Rattle.practice_draws.proofs.fill_lists.Given as goal

-- the numbers of one kind: of record i the draw so many after its first
abbrev pub kind : GeneratorState → ℕ → ℕ → ℕ → ℕ
kind w span offset i = drawn_number span (draw_at w (4 * i + offset))

abbrev pub invariant-loop-i : goal.invariant-loop-i
invariant-loop-i l =
    (l.i ≤ 1694) × (l.words ≡ state_after l.initial.words (4 * l.i))
    × Filled (λ (i : ℕ). drawn_number most_count (draw_at l.initial.words (4 * i))) 1694 l.lists.counts l.i
    × Filled (kind l.initial.words most_rate 1) 1694 l.lists.lapses l.i
    × Filled (kind l.initial.words most_amount 2) 1694 l.lists.premiums l.i
    × Filled (kind l.initial.words most_amount 3) 1694 l.lists.claims l.i

abbrev pub decreases-loop-i : goal.decreases-loop-i
decreases-loop-i l = 1694 - l.i
