-- `five_cells_year_0::add_year_0` meets its contract: five times two additions. Assumes nothing.
use native.Mathlib.Omega.{arith}
use Rattle.lists.proofs.AtMost.{most_higher}
use Rattle.five_cells.specs.Five.{five_times_more}
use Rattle.cell_projection.proofs.Years.{two_most}
use Rattle.five_cells_year_0.proofs.add_year_0.Goals as goal

pub add_two-requires-2 : goal.add_two-requires-2
add_two-requires-2 c =
    let p = c.requires in
    let first = two_most _ p.2 p.0 p.1 c.add_two.ensures in
    (omega arith, p.0, p.1, most_higher first (omega arith))

pub add_two-requires-3 : goal.add_two-requires-3
add_two-requires-3 c =
    let p = c.requires in
    let first = two_most _ p.2 p.0 p.1 c.add_two.ensures in
    let second = two_most _ first p.0 p.1 c.add_two-2.ensures in
    (omega arith, p.0, p.1, most_higher second (omega arith))

pub add_two-requires-4 : goal.add_two-requires-4
add_two-requires-4 c =
    let p = c.requires in
    let first = two_most _ p.2 p.0 p.1 c.add_two.ensures in
    let second = two_most _ first p.0 p.1 c.add_two-2.ensures in
    let third = two_most _ second p.0 p.1 c.add_two-3.ensures in
    (omega arith, p.0, p.1, most_higher third (omega arith))

pub add_two-requires-5 : goal.add_two-requires-5
add_two-requires-5 c =
    let p = c.requires in
    let first = two_most _ p.2 p.0 p.1 c.add_two.ensures in
    let second = two_most _ first p.0 p.1 c.add_two-2.ensures in
    let third = two_most _ second p.0 p.1 c.add_two-3.ensures in
    let fourth = two_most _ third p.0 p.1 c.add_two-4.ensures in
    (omega arith, p.0, p.1, most_higher fourth (omega arith))

pub returns : goal.returns
unfolding five_times_more
returns c =
    rw (
      c.add_two-5.ensures,
      c.add_two-4.ensures,
      c.add_two-3.ensures,
      c.add_two-2.ensures,
      c.add_two.ensures,
    )
