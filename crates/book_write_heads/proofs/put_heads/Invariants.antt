-- `book_write_heads::put_heads` meets its contract. The invariant: the heads of the chains so far are written.
-- The measure is the number of chains left. Assumes nothing.
use mathlib.Core.Path.{◌≡◌}
use Prim.Native.Nat.{ℕ, ◌+◌, ◌-◌, ◌*◌, ◌≤◌}
use Rattle.le_bytes.specs.Bytes.{two_bytes}
use Rattle.buffer.specs.Text.{Wrote, joined}
use Rattle.book_contents.specs.Written.{head_for}
use Rattle.book_write_heads.proofs.put_heads.Given as goal

abbrev pub invariant-loop-number : goal.invariant-loop-number
invariant-loop-number l =
    (l.number ≤ 14)
    × Wrote l.initial.out l.at (joined (λ (i : ℕ). two_bytes (head_for l.values.first i)) l.number) l.out l.next
    × (l.next ≡ l.at + 2 * l.number)

abbrev pub decreases-loop-number : goal.decreases-loop-number
decreases-loop-number l = 14 - l.number
