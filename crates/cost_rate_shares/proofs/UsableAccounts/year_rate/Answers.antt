-- `cost_rate_shares::UsableAccounts::year_rate` meets its contract: both shares are bounded, and the premium is not
-- zero. Assumes nothing.
use Prim.Native.Nat.{◌+◌, ◌*◌}
use native.Mathlib.Nat.{div-le_self}
use native.Mathlib.Omega.{arith}
use Rattle.cost_rate_shares.specs.Rates.{year_rate}
use Rattle.cost_rate_shares.proofs.UsableAccounts.year_rate.Goals as goal

pub returns : goal.returns
unfolding year_rate
returns c =
    let s = c.share-by_stock in
    let t = c.share-by_claims in (
      rw (
        s.ensures.0,
        t.ensures.0,
        c.at.ensures.0,
        c.stock.ensures,
        c.claims.ensures,
        c.premium.ensures,
        c.bounded-bounded.ensures,
      ),
      omega (arith, div-le_self ((s.result + t.result) * 1000000) (2 * c.at.result)),
    )
