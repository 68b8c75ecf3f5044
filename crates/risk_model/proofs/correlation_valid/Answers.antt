-- `risk_model::correlation_valid` meets its contract: a test of each place of the range. Assumes nothing.
use mathlib.Core.Bool.{Bool}
use Prim.Native.Nat.{ℕ, ◌/◌, ◌%◌}
use Rattle.std.proofs.Common.{rules, tests}
use Rattle.conditions.proofs.Checked.{range_checked}
use Rattle.risk_model.specs.Model.{right_at, correlation_right}
use Rattle.risk_model.proofs.correlation_valid.Goals as goal

pub returns : goal.returns
unfolding correlation_right
returns c =
    let r = c.args.correlation.now in
    let test : ℕ → Bool = λ k. right_at r (k / 4) (k % 4) in
    range_checked test 16 c.all.result c.all.ensures.ran (λ place b q k. search (rules, tests))
