-- `book_write_chains::put_chain` meets its contract. The invariant: the records of the entries before j are written,
-- and the lists have room for the others. The measure is how many are left. Assumes nothing.
use mathlib.Core.Path.{◌≡◌}
use Prim.Native.Nat.{◌+◌, ◌-◌, ◌*◌, ◌≤◌}
use Rattle.book.specs.Layout.{record_size}
use Rattle.buffer.specs.Text.{Wrote, joined}
use Rattle.book_contents.specs.Contents.{given_lists}
use Rattle.book_contents.specs.Written.{record_bytes_of}
use Rattle.book_write_chains.proofs.ChainRecords.{Room}
use Rattle.book_write_chains.proofs.put_chain.Given as goal

abbrev pub invariant-loop-j : goal.invariant-loop-j
invariant-loop-j l =
    (l.j ≤ l.j-end)
    × Wrote l.initial.out l.at
    (joined (record_bytes_of (given_lists l.chain.values.now l.lists) l.chain.number) l.j) l.out l.next
    × (l.next ≡ l.at + record_size * l.j)
    × Room (given_lists l.chain.values.now l.lists) l.chain.number l.chain.before l.j-end

abbrev pub decreases-loop-j : goal.decreases-loop-j
decreases-loop-j l = l.j-end - l.j
