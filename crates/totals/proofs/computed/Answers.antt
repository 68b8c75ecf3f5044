-- `totals::computed` meets its contract: the eight totals, and four differences of them. Assumes nothing.
use native.Mathlib.Omega.{arith}
use Rattle.totals.proofs.SignedTotals.{total_small, total_at, difference_is}
use Rattle.totals.proofs.computed.Goals as goal

pub minus-requires : goal.minus-requires
minus-requires c =
    let h = c.all_totals-totals.ensures in omega (arith, total_small _ _ h 1, total_small _ _ h 2)

pub minus-requires-2 : goal.minus-requires-2
minus-requires-2 c =
    let h = c.all_totals-totals.ensures in omega
    (arith, total_small _ _ h 3, total_small _ _ h 4)

pub minus-requires-3 : goal.minus-requires-3
minus-requires-3 c =
    let h = c.all_totals-totals.ensures in omega
    (arith, total_small _ _ h 5, total_small _ _ h 6)

pub minus-requires-4 : goal.minus-requires-4
minus-requires-4 c =
    let h = c.all_totals-totals.ensures in omega (arith, total_small _ _ h 7, total_small _ _ h 0)

pub returns : goal.returns
returns c =
    let h = c.all_totals-totals.ensures in
    let d1 = c.minus in
    let d2 = c.minus-2 in
    let d3 = c.minus-3 in
    let d4 = c.minus-4 in
    simp (
      h.0,
      difference_is _ _ _ _ _ d1.type_inv d1.ensures (total_at _ _ h 1) (total_at _ _ h 2),
      difference_is _ _ _ _ _ d2.type_inv d2.ensures (total_at _ _ h 3) (total_at _ _ h 4),
      difference_is _ _ _ _ _ d3.type_inv d3.ensures (total_at _ _ h 5) (total_at _ _ h 6),
      difference_is _ _ _ _ _ d4.type_inv d4.ensures (total_at _ _ h 7) (total_at _ _ h 0),
    )

pub all_totals-totals-requires : goal.all_totals-totals-requires
all_totals-totals-requires c = c.requires
