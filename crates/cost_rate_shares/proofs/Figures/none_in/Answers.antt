-- `cost_rate_shares::Figures::none_in` meets its contract: a test of each year of the range. Assumes nothing.
use mathlib.Core.Bool.{Bool}
use Prim.Native.Nat.{ℕ}
use lib.Dec.{eqb}
use Rattle.std.proofs.Common.{rules, tests}
use Rattle.conditions.proofs.Checked.{range_checked}
use Rattle.cost_rate_shares.specs.Rates.{figure, none_in}
use Rattle.cost_rate_shares.proofs.Figures.none_in.Goals as goal

pub returns : goal.returns
unfolding none_in
returns c =
    let test : ℕ → Bool = λ year. eqb (figure c.args.self.figures year c.args.group) 0 in
    range_checked test 3 c.all.result c.all.ensures.ran (λ year b q k. search (rules, tests))
