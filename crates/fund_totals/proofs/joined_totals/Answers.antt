-- `fund_totals::joined_totals` meets its contract: what is read back from the buffer is the joined book. Assumes
-- nothing.
use mathlib.Core.Path.{◌≡◌, sym}
use Prim.Native.Nat.{◌≤◌}
use native.Mathlib.Omega.{arith}
use lib.ListN.{length, take}
use lib.Seq.{length-take-le}
use Rattle.fund_definitions.specs.Fund.{joined_book}
use Rattle.fund_definitions.proofs.Joined.{read_back}
use Rattle.fund_totals.proofs.joined_totals.Goals as goal
use Rattle.fund_totals.proofs.joined_totals.Goals.{After-join-size}

back : (c : After-join-size) → (c.join-size.result ≤ length c.join-size.new.book)
    × (take c.join-size.result c.join-size.new.book ≡ joined_book c.args.table.now c.args.fund.now)
back c =
    read_back c.args.table.now c.args.fund.now c.requires.0 c.join-size.ensures
    (omega (arith, c.requires.1, c.input_buffer-book.ensures))

pub slice_bounds-book-end : goal.slice_bounds-book-end
slice_bounds-book-end c = (back (goal.at.slice_bounds-book-end c).After-join-size).0

pub slice_bounds-totals-end : goal.slice_bounds-totals-end
slice_bounds-totals-end c =
    let w = (goal.at.slice_bounds-totals-end c).After-join-size in
    sym (length-take-le w.join-size.result w.join-size.new.book (back w).0)

pub returns : goal.returns
returns c = rw (back (goal.at.returns c).After-join-size).1 at c.totals.ensures
