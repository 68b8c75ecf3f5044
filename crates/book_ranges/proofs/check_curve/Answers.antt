use mathlib.Core.Path.{◌≡◌, sym, ◌∙◌}
use native.Mathlib.Omega.{arith}
use borrow.Author.Rules.{rules}
use lib.IntN.{pos}
use lib.ListN.{get_or}
use Rattle.verdict.specs.Verdicts.{need}
use Rattle.verdict.proofs.Verdicts.{all_start, all_good, all_bad, all_done, need_zero, handed_on}
use Rattle.book_contents.specs.Limits.{curve_rate, check_curve}
use Rattle.book_ranges.proofs.check_curve.Goals as goal
use Rattle.book_ranges.proofs.check_curve.Goals.{After-need}

-- what the rate here says
said : (c : After-need) → c.need.result ≡ need (curve_rate (get_or c.args.curve.now c.loop-x.x-index (pos 0))) 7 0
said c = search rules

pub loop-x-init : goal.loop-x-init
unfolding check_curve
loop-x-init c = all_start _ _

pub returns-in_err-need : goal.returns-in_err-need
returns-in_err-need c =
    handed_on _ c.from_residual.ensures ∙ sym (c.loop-x.invariant
    ∙ all_bad _ _ _ _ _ (omega arith)
    (sym (said (goal.at.returns-in_err-need c).After-need) ∙ c.in_err-need.was))

pub loop-x-preserved : goal.loop-x-preserved
loop-x-preserved c =
    c.loop-x.invariant
    ∙ all_good _ _ _ _ _ 0 (omega arith)
    (need_zero _ _ _ _ (sym (said (goal.at.loop-x-preserved c).After-need) ∙ c.in_ok-need.was))

pub returns : goal.returns
returns c = sym (c.loop-x.invariant ∙ all_done _ _ _ _ (omega arith))
