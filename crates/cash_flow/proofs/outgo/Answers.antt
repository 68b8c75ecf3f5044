-- `cash_flow::outgo` meets its contract: both products fit, and both parts are as defined. Assumes nothing.
use Prim.Native.Nat.{◌*◌, ◌≤◌}
use native.Mathlib.Nat.{mul-le-mul, div-le_of_le-mul, le_trans}
use native.Mathlib.Omega.{arith}
use Rattle.settings_outgo.proofs.Weights.{weights_most}
use Rattle.cash_flow.specs.CashFlow.{outgo_of}
use Rattle.cash_flow.proofs.outgo.Goals as goal
use Rattle.cash_flow.proofs.outgo.Goals.{After-at-held, After-share}

-- the weights that hold in the year
low : (m : After-at-held) → (m.at-held.result.costs ≤ 1200) × (m.at-held.result.claims ≤ 1050)
low m = rw m.at-held.ensures (weights_most m.args.w m.args.k m.requires.0)

pub overflow_mul-result : goal.overflow_mul-result
overflow_mul-result c =
    let p : c.args.claims * c.at-held.result.claims ≤ 726000000000000 * 1050 =
    mul-le-mul c.requires.3 (low (goal.at.overflow_mul-result c).After-at-held).1 in
    omega arith

pub overflow_mul-rate : goal.overflow_mul-rate
overflow_mul-rate c =
    let p : c.args.rate * c.at-held.result.costs ≤ 1000000 * 1200 =
    mul-le-mul c.requires.1 (low (goal.at.overflow_mul-rate c).After-at-held).0 in
    omega arith

pub share-requires : goal.share-requires
share-requires c =
    let p : c.args.rate * c.at-held.result.costs ≤ 1000000 * 1200 =
    mul-le-mul c.requires.1 (low (goal.at.share-requires c).After-at-held).0 in
    (omega arith, omega arith)

-- the two parts, before and after their divisions
bound : (c : After-share) → (c.at-held.result.costs ≤ 1200) × (c.at-held.result.claims ≤ 1050)
    → (c.args.claims * c.at-held.result.claims ≤ 726000000000000 * 1050)
    × (c.share.result ≤ 871200000000000)
bound c h = (
  mul-le-mul c.requires.3 h.1,
  rw c.share.ensures
      (div-le_of_le-mul 1000000000
      (le_trans (mul-le-mul c.requires.2 (mul-le-mul c.requires.1 h.0))
      (omega arith))),
)

pub overflow_add-result : goal.overflow_add-result
overflow_add-result c = omega (arith, bound c (low (goal.at.overflow_add-result c).After-at-held))

pub returns : goal.returns
unfolding outgo_of
returns c = (
  rw (c.share.ensures, c.at-held.ensures),
  omega (arith, bound c (low (goal.at.returns c).After-at-held)),
)
