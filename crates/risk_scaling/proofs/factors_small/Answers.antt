-- `risk_scaling::factors_small` meets its contract: a test of each of the four. Assumes nothing.
use mathlib.Core.Bool.{Bool}
use lib.Dec.{leb}
use lib.IntN.{ℤ, pos, nat_abs}
use Rattle.std.proofs.Common.{rules, tests}
use Rattle.conditions.proofs.Checked.{slice_checked}
use Rattle.signed.specs.Signs.{number_at}
use Rattle.risk_scaling.specs.Factors.{factors_small}
use Rattle.risk_scaling.proofs.factors_small.Goals as goal

pub returns : goal.returns
unfolding factors_small number_at
returns c =
    let test : ℤ → Bool = λ z. leb (nat_abs z) 1000000 in
    slice_checked test c.args.f.now (pos 0) 4 (search rules) (cc) c.all.result c.all.ensures.ran
    (λ x b q k. search (rules, tests))
