-- `book_check::check_chains` meets its contract. The invariant: the counts so far, added to what the chains from k on
-- say, are what all say. Assumes nothing.
use mathlib.Core.Path.{◌≡◌}
use Prim.Native.Nat.{◌-◌, ◌*◌, ◌≤◌}
use Rattle.verdict.specs.Verdicts.{plus, join_all}
use Rattle.book.specs.Check.{check_chain, check_chains}
use Rattle.book_check.proofs.check_chains.Given as goal

abbrev pub invariant-loop-k : goal.invariant-loop-k
invariant-loop-k l =
    (l.n ≤ 122 * l.k) × (check_chains l.b l.last ≡ plus l.n
    (join_all (check_chain l.b l.last) l.k (14 - l.k)))
