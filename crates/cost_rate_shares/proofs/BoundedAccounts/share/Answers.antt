-- `cost_rate_shares::BoundedAccounts::share` meets its contract: a figure is at most its year's sum, which is not zero.
-- Assumes nothing.
use Prim.Native.Nat.{◌≤◌}
use native.Mathlib.Omega.{arith}
use Rattle.cost_rate_shares.specs.Rates.{share}
use Rattle.cost_rate_shares.proofs.Below.{figure_below, share_below}
use Rattle.cost_rate_shares.proofs.BoundedAccounts.share.Goals as goal

pub returns : goal.returns
unfolding share
returns c =
    let a = c.args in
    let w = c.lowered in
    let x = c.at in
    let s = c.year_sum in
    let below : x.result ≤ s.result =
    rw (x.ensures.0, s.ensures.0) (figure_below a.split.figures a.year a.group (omega arith)) in (
      rw (w.ensures.0, x.ensures.0, s.ensures.0),
      omega (arith, share_below w.result x.result s.result below),
    )
