-- `in_force_run::year_later` meets its contract: of nothing in force nothing is left. Assumes nothing.
use mathlib.Core.Path.{◌≡◌}
use native.Mathlib.Nat.{zero-mul, zero-div}
use native.Mathlib.Omega.{arith}
use Rattle.in_force_run.proofs.year_later.Goals as goal

pub overflow_add-result : goal.overflow_add-result
overflow_add-result c = omega (arith, c.requires.0.fits)

pub returns-then-cell-eq0 : goal.returns-then-cell-eq0
returns-then-cell-eq0 c =
    let z : c.args.cell.inforce ≡ 0 = omega (arith, c.if-cell-eq0.true) in
    rw (z, zero-mul, zero-div, zero-mul, zero-div)

pub next_year-requires : goal.next_year-requires
next_year-requires c = c.requires

pub returns : goal.returns
returns c = c.next_year.ensures
