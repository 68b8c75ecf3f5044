-- `settings_decrements::mortality_weight` meets its contract: at most 100 percent, at most 12 for each. Assumes
-- nothing.
use Prim.Native.Nat.{◌*◌, ◌≤◌}
use native.Mathlib.Nat.{mul-le-mul}
use native.Mathlib.Omega.{arith}
use Rattle.settings_decrements.specs.Decrements.{mortality_weight}
use Rattle.settings.proofs.Weights.{multiple_most}
use Rattle.settings_decrements.proofs.mortality_weight.Goals as goal
use Rattle.settings_decrements.proofs.mortality_weight.Goals.{After-weight}

pub percent_of-requires : goal.percent_of-requires
percent_of-requires c = (c.requires.1, c.requires.2)

bound : (c : After-weight) → c.percent_of.result * c.weight.result ≤ 1200
bound c =
    let multiple : c.weight.result ≤ 12 =
    rw (c.weight.ensures.0, c.mortality_kind.ensures c.requires.1)
    (multiple_most c.args.setting c.args.sex c.args.k c.requires.1) in
    mul-le-mul c.percent_of.ensures.1 multiple

pub overflow_mul-result : goal.overflow_mul-result
overflow_mul-result c = omega (arith, bound c)

pub returns : goal.returns
unfolding mortality_weight
returns c = (
  rw (
    c.percent_of.ensures.0,
    c.weight.ensures.0,
    c.mortality_kind.ensures c.requires.1,
  ),
  omega (arith, bound c),
)
