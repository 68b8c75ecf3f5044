-- `five_cells::year` meets its contract: five times one year, each at its own places. Assumes nothing.
use mathlib.Core.Path.{◌≡◌, ap}
use mathlib.Core.List.{List}
use Prim.Native.Nat.{ℕ, ◌+◌, ◌*◌}
use native.Mathlib.Omega.{arith}
use Rattle.lists.specs.AtMost.{AtMost}
use Rattle.lists.proofs.AtMost.{most_higher}
use Rattle.settings_columns.specs.Columns.{five_columns}
use Rattle.settings_columns.specs.Columns.{FiveColumns}
use Rattle.cell.specs.declared.Cell.{Cell}
use Rattle.cell.specs.States.{Ready}
use Rattle.cell.proofs.Cells.{premium_in_le, claims_in_le}
use Rattle.five_cells.specs.Five.{next_five, ten_more}
use Rattle.cell_projection.specs.Tables.{year_more}
use Rattle.five_cells.specs.Five.{FiveCells}
use Rattle.cell_projection.proofs.Years.{two_most}
use Rattle.five_cells.proofs.year.Goals as goal

-- how much a year of one projection adds at most
more : {m : ℕ} (t : List ℕ) (setting k : ℕ) (c : Cell) (u v : List ℕ) → Ready t c → AtMost m 500 u
    → v ≡ year_more t setting k c u → AtMost (m + 1000000000000) 500 v
more t setting k c u v r a e = two_most (10 * k + 2 * setting) a (premium_in_le t c r) (claims_in_le t c r) e

pub one_year-base-requires : goal.one_year-base-requires
unfolding five_columns
one_year-base-requires c =
    let p = c.requires in
    (p.0.base, omega arith, p.1, most_higher p.2 (omega arith), ap (λ (x : FiveColumns). x.base) p.3)

pub one_year-mortality_up-requires : goal.one_year-mortality_up-requires
unfolding five_columns
one_year-mortality_up-requires c =
    let p = c.requires in
    let first = more _ 0 _ _ _ _ p.0.base p.2 c.one_year-base.ensures.1 in (
      p.0.mortality_is_up,
      omega arith,
      p.1,
      most_higher first (omega arith),
      ap (λ (x : FiveColumns). x.mortality_up) p.3,
    )

pub one_year-mortality_down-requires : goal.one_year-mortality_down-requires
unfolding five_columns
one_year-mortality_down-requires c =
    let p = c.requires in
    let first = more _ 0 _ _ _ _ p.0.base p.2 c.one_year-base.ensures.1 in
    let second = more _ 1 _ _ _ _ p.0.mortality_is_up first c.one_year-mortality_up.ensures.1 in (
      p.0.mortality_is_down,
      omega arith,
      p.1,
      most_higher second (omega arith),
      ap (λ (x : FiveColumns). x.mortality_down) p.3,
    )

pub one_year-lapse_up-requires : goal.one_year-lapse_up-requires
unfolding five_columns
one_year-lapse_up-requires c =
    let p = c.requires in
    let first = more _ 0 _ _ _ _ p.0.base p.2 c.one_year-base.ensures.1 in
    let second = more _ 1 _ _ _ _ p.0.mortality_is_up first c.one_year-mortality_up.ensures.1 in
    let third = more _ 2 _ _ _ _ p.0.mortality_is_down second c.one_year-mortality_down.ensures.1 in
    (p.0.lapse_up, omega arith, p.1, most_higher third (omega arith), ap (λ (x : FiveColumns). x.lapse_up) p.3)

pub one_year-lapse_down-requires : goal.one_year-lapse_down-requires
unfolding five_columns
one_year-lapse_down-requires c =
    let p = c.requires in
    let first = more _ 0 _ _ _ _ p.0.base p.2 c.one_year-base.ensures.1 in
    let second = more _ 1 _ _ _ _ p.0.mortality_is_up first c.one_year-mortality_up.ensures.1 in
    let third = more _ 2 _ _ _ _ p.0.mortality_is_down second c.one_year-mortality_down.ensures.1 in
    let fourth = more _ 3 _ _ _ _ p.0.lapse_up third c.one_year-lapse_up.ensures.1 in
    (p.0.lapse_down, omega arith, p.1, most_higher fourth (omega arith), ap (λ (x : FiveColumns). x.lapse_down) p.3)

-- five tables, one after the other
chained : (t : List ℕ) (k : ℕ) (c : FiveCells) (u v w x y z : List ℕ) → v ≡ year_more t 0 k c.base u
    → w ≡ year_more t 1 k c.mortality_up v
    → x ≡ year_more t 2 k c.mortality_down w → y ≡ year_more t 3 k c.lapse_up x
    → z ≡ year_more t 4 k c.lapse_down y → z ≡ ten_more t k c u
unfolding ten_more
chained t k c u v w x y z ev ew ex ey ez = rw (ez, ey, ex, ew, ev)

pub returns : goal.returns
unfolding next_five
returns c = (
  rw (
    c.one_year-base.ensures.0,
    c.one_year-mortality_up.ensures.0,
    c.one_year-mortality_down.ensures.0,
    c.one_year-lapse_up.ensures.0,
    c.one_year-lapse_down.ensures.0,
  ),
  chained c.args.rows.now c.args.k c.args.cells _ _ _ _ _ _ c.one_year-base.ensures.1
      c.one_year-mortality_up.ensures.1 c.one_year-mortality_down.ensures.1 c.one_year-lapse_up.ensures.1
      c.one_year-lapse_down.ensures.1,
)
