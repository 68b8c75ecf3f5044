-- `book_ranges::check_most` meets its contract. The invariant: what the numbers from here on say is what all say.
-- Assumes nothing.
use mathlib.Core.Path.{◌≡◌}
use Prim.Native.Nat.{ℕ, ◌-◌}
use lib.Dec.{leb}
use lib.ListN.{length, get_or}
use Rattle.verdict.specs.Verdicts.{need, plus, join_all}
use Rattle.book_contents.specs.Limits.{check_most}
use Rattle.book_ranges.proofs.check_most.Given as goal

abbrev pub invariant-loop-x : goal.invariant-loop-x
invariant-loop-x l =
    check_most l.number l.most l.list ≡ plus 0
    (join_all (λ (i : ℕ). need (leb (get_or l.list i 0) l.most) l.number 0) l.x-index (length l.list - l.x-index))
