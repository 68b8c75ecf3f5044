-- `cell_projection::one_year` meets its contract: two additions, and the state a year later. Assumes nothing.
use Rattle.cell.proofs.Cells.{held_low, next_held}
use Rattle.cell_projection.proofs.Years.{both}
use Rattle.cell_projection.proofs.one_year.Goals as goal

pub next_year-requires : goal.next_year-requires
next_year-requires c =
    let low = held_low _ c.args.k _ c.requires.4 in
    (c.requires.0, low.0, low.1)

pub returns : goal.returns
returns c = (
  next_held _ _ _ c.requires.4 _ _ _ c.next_year.ensures,
  both _ _ _ _ _ _ _ _ c.add_at.ensures
      c.add_at-2.ensures c.premium.ensures c.claims.ensures,
)
