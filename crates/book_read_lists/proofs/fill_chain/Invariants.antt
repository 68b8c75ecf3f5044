-- `book_read_lists::fill_chain` meets its contract. The invariant: the entries passed are written, and i is the next
-- one. The measure is how many are left. Assumes nothing.
use mathlib.Core.Path.{◌≡◌}
use Prim.Native.Nat.{ℕ, ◌+◌, ◌-◌, ◌≤◌}
use Rattle.book.specs.Layout.{field_of, link_at}
use Rattle.buffer.specs.Text.{Wrote}
use Rattle.lists.specs.Each.{each}
use Rattle.book_read_lists.proofs.fill_chain.Given as goal

abbrev pub invariant-loop : goal.invariant-loop
invariant-loop l =
    (l.counter ≤ l.size) × (l.i ≡ link_at l.book l.k l.counter)
    × Wrote l.initial.list l.at
    (each (λ (j : ℕ). field_of l.book (link_at l.book l.k j) l.offset) l.counter) l.list l.next
    × (l.next ≡ l.at + l.counter)

abbrev pub decreases-loop : goal.decreases-loop
decreases-loop l = l.size - l.counter
