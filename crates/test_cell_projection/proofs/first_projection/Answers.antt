-- `test_cell_projection::first_projection` is safe: the reading of the rows and the projection have what they ask for,
-- from the check. Assumes nothing.
use mathlib.Core.Path.{refl, sym, ◌∙◌}
use Prim.Native.Nat.{◌<◌}
use native.Mathlib.Omega.{arith}
use Rattle.lists.proofs.AtMost.{most_higher, most_replicate}
use Rattle.book.specs.Reading.{Standing, ValidBook}
use Rattle.book.proofs.Valid.{valid}
use Rattle.valuation.specs.Portfolio.{row_at}
use Rattle.valuation.proofs.Rows.{chain_standing}
use Rattle.group_projection.proofs.Adding.{head_chain}
use Rattle.cell_projection.proofs.Records.{projectable_here}
use Rattle.test_cell_projection.proofs.first_projection.Goals as goal
use Rattle.test_cell_projection.proofs.first_projection.Goals.{Else-head-eq0}

-- the book is accepted, and the head's record stands in its chain
accepted : (m : Else-head-eq0)
    → ValidBook 1 m.args.book.now
accepted m =
    valid 1 _ _ (sym m.check.ensures ∙ m.in-Ok.is)

few : (m : Else-head-eq0) → m.args.chain < 14
few m = omega arith

stands : (m : Else-head-eq0)
    → Standing m.args.book.now 120
    m.args.chain m.head_of-head.result
stands m =
    let a = m.args in
    let h = m.head_of-head in
    chain_standing a.book.now a.chain _ h.result
    (head_chain a.book.now (accepted m) a.chain (few m) h.result _ h.ensures.0 m.if-head-eq0.false refl)
    (omega arith)

pub head_of-head-requires : goal.head_of-head-requires
head_of-head-requires c =
    let v = valid 1 _ _ (sym c.check.ensures ∙ c.in-Ok.is) in
    (omega arith, omega (arith, v.header.size))

pub shifts_of-w-requires : goal.shifts_of-w-requires
shifts_of-w-requires c = accepted c

pub read_rows-requires : goal.read_rows-requires
read_rows-requires c =
    let head = (goal.at.read_rows-requires c).Else-head-eq0 in
    (c.shifts_of-w.ensures, accepted head, few head, stands head)

pub field_of-count-requires : goal.field_of-count-requires
field_of-count-requires c =
    let head = (goal.at.field_of-count-requires c).Else-head-eq0 in
    (((stands head).0.first, omega (arith, (stands head).0.inside, (accepted head).header.size)), omega arith)

pub project-counts-requires : goal.project-counts-requires
unfolding row_at
project-counts-requires c =
    let head = (goal.at.project-counts-requires c).Else-head-eq0 in
    let read = c.read_rows.ensures in (
      projectable_here _ _ _ (stands head) _ read 0 _ _ (omega arith) refl c.field_of-count.ensures.0,
      most_higher (most_replicate 500 0) (omega arith),
    )

pub projection_of-requires : goal.projection_of-requires
projection_of-requires c =
    omega (
      arith,
      c.if-setting-gt7.false,
    )
