-- `cost_rate_shares::Figures::year_sum` meets its contract: the five figures of the year, added. Assumes nothing.
use mathlib.Core.Path.{◌≡◌, refl}
use Prim.Native.Nat.{◌+◌, ◌-◌, ◌*◌, ◌≤◌}
use native.Mathlib.Omega.{arith}
use lib.ListN.{length}
use Rattle.std.proofs.Common.{rules}
use Rattle.std.specs.List.{sum}
use Rattle.std.proofs.lemmas.Iterator.{YieldsList-from_slice}
use Rattle.std.proofs.lemmas.Iterator.Consumers.{fits_from_yields_list, sum_from_yields_List}
use Rattle.cost_rate_shares.specs.Rates.{year_sum}
use Rattle.cost_rate_shares.proofs.YearSum.{sum_year, year_sum_most}
use Rattle.cost_rate_shares.proofs.Figures.year_sum.Goals as goal
use Rattle.cost_rate_shares.proofs.Figures.year_sum.Goals.{After-iter}

-- the figures of the slice are the year's
slice_sum : (c : After-iter) → sum c.iter.result.rest.now ≡ year_sum c.args.self.figures c.args.year
slice_sum c =
    let start = 5 * c.args.year in
    let whole : length c.args.self.figures ≡ 15 = search rules in
    rw c.iter.ensures.rest
    (sum_year c.args.self.figures c.args.year (start + 5 - start) (omega arith) (omega (arith, whole)))

slice_most : (c : After-iter) → year_sum c.args.self.figures c.args.year ≤ 5000000000
slice_most c = year_sum_most _ _ c.args.self.limit (omega arith)

pub sum-requires-clause-fits : goal.sum-requires-clause-fits
sum-requires-clause-fits c =
    let slice = YieldsList-from_slice c.iter.result.rest.now refl in
    fits_from_yields_list _ _ slice (omega (arith, slice_sum c, slice_most c))

pub returns : goal.returns
returns c =
    let p = (goal.at.returns c).After-iter in
    let slice = YieldsList-from_slice p.iter.result.rest.now refl in
    let e = sum_from_yields_List _ c.sum.result c.sum.ensures.ran slice in
    omega (arith, e, slice_sum p, slice_most p)
