-- `book_ranges::check_curve` meets its contract. The invariant: what the rates from here on say is what all say.
-- Assumes nothing.
use mathlib.Core.Path.{◌≡◌}
use Prim.Native.Nat.{ℕ, ◌-◌}
use lib.IntN.{pos}
use lib.ListN.{length, get_or}
use Rattle.verdict.specs.Verdicts.{need, plus, join_all}
use Rattle.book_contents.specs.Limits.{curve_rate, check_curve}
use Rattle.book_ranges.proofs.check_curve.Given as goal

abbrev pub invariant-loop-x : goal.invariant-loop-x
invariant-loop-x l =
    check_curve l.curve ≡ plus 0
    (join_all (λ (i : ℕ). need (curve_rate (get_or l.curve i (pos 0))) 7 0) l.x-index (length l.curve - l.x-index))
