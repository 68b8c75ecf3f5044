-- `practice_draws::fill_curve` meets its contract. The invariant: the rates passed are drawn, and the words are as many
-- draws on. Assumes nothing.
use mathlib.Core.Path.{◌≡◌}
use Prim.Native.Nat.{ℕ}
use lib.ListN.{length}
use Rattle.generator.specs.Draws.{state_after, draw_at}
use Rattle.practice_contents.specs.Drawn.{drawn_rate}
use Rattle.practice_draws.proofs.DrawnLists.{Filled}
use Rattle.practice_draws.proofs.fill_curve.Given as goal

abbrev pub invariant-loop-rate : goal.invariant-loop-rate
invariant-loop-rate l =
    (l.words ≡ state_after l.initial.words l.rate-index)
    × Filled (λ (i : ℕ). drawn_rate (draw_at l.initial.words i)) (length l.initial.curve) l.curve l.rate-index
