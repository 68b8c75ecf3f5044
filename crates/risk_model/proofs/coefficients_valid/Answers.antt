-- `risk_model::coefficients_valid` meets its contract: a test of each of the four. Assumes nothing.
use mathlib.Core.Bool.{Bool}
use Prim.Native.Nat.{ℕ}
use lib.Dec.{leb}
use Rattle.std.proofs.Common.{rules, tests}
use Rattle.conditions.proofs.Checked.{slice_checked}
use Rattle.risk_model.specs.Model.{coefficients_right}
use Rattle.risk_model.proofs.coefficients_valid.Goals as goal

pub returns : goal.returns
unfolding coefficients_right
returns c =
    let test : ℕ → Bool = λ x. leb x 1000000 in
    slice_checked test c.args.coefficients.now 0 4 (search rules) (cc) c.all.result c.all.ensures.ran
    (λ x b q k. search (rules, tests))
