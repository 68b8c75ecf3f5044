-- `book_write_chains::put_chains` meets its contract. The invariant: the chains so far are written. The measure is the
-- number of chains left. Assumes nothing.
use mathlib.Core.Path.{◌≡◌}
use Prim.Native.Nat.{◌+◌, ◌-◌, ◌*◌, ◌≤◌}
use Rattle.book.specs.Layout.{header_size, record_size}
use Rattle.buffer.specs.Text.{Wrote, joined}
use Rattle.book_contents.specs.Contents.{given_lists, records_before}
use Rattle.book_contents.specs.Written.{chain_bytes}
use Rattle.book_write_chains.proofs.put_chains.Given as goal

abbrev pub invariant-loop-number : goal.invariant-loop-number
invariant-loop-number l =
    (l.number ≤ 14) × Wrote l.initial.out header_size
    (joined (chain_bytes (given_lists l.values l.lists)) l.number) l.out l.next
    × (l.next ≡ header_size + record_size * records_before l.values.first l.number)

abbrev pub decreases-loop-number : goal.decreases-loop-number
decreases-loop-number l = 14 - l.number
