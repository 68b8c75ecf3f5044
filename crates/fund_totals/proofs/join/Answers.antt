-- `fund_totals::join` meets its contract: three runs of bytes one after the other, as the definition joins them.
-- Assumes nothing.
use mathlib.Core.Path.{sym}
use native.Mathlib.Omega.{arith}
use lib.ListN.{length-drop}
use lib.Seq.{length-take-le}
use Rattle.buffer.proofs.Digits.{◌then◌}
use Rattle.fund_definitions.specs.Fund.{front_size, joined_book}
use Rattle.fund_definitions.proofs.Joined.{rest_whole}
use Rattle.fund_totals.proofs.join.Goals as goal

pub slice_bounds-put_bytes-end : goal.slice_bounds-put_bytes-end
slice_bounds-put_bytes-end c = sym (length-take-le front_size c.args.fund.now c.requires)

pub put_bytes-table_at-requires : goal.put_bytes-table_at-requires
put_bytes-table_at-requires c =
    omega
    (arith, length-take-le front_size c.args.fund.now c.requires)

pub put_bytes-records_at-requires : goal.put_bytes-records_at-requires
put_bytes-records_at-requires c =
    omega (
      arith,
      c.put_bytes-table_at.ensures.place,
      length-take-le front_size c.args.fund.now c.requires,
      c.well_formed.1.0.1,
    )

pub put_bytes-requires : goal.put_bytes-requires
put_bytes-requires c =
    let whole = rest_whole c.args.table.now c.args.fund.now c.requires in
    rw whole
    (omega (
      arith,
      c.put_bytes-records_at.ensures.place,
      c.put_bytes-table_at.ensures.place,
      length-take-le front_size
          c.args.fund.now c.requires,
      length-drop front_size c.args.fund.now,
      c.well_formed.1.0.1,
      c.well_formed.1.1.0.1,
      c.requires,
    ))

pub returns : goal.returns
unfolding joined_book
returns c =
    c.put_bytes-table_at.ensures then c.put_bytes-records_at.ensures then
    (rw (rest_whole c.args.table.now c.args.fund.now c.requires) at c.put_bytes.ensures)
