use mathlib.Core.Path.{sym, ◌∙◌}
use native.Mathlib.Omega.{arith}
use Rattle.verdict.proofs.Verdicts.{all_start, all_good, all_bad, all_done, need_zero, handed_on}
use Rattle.book_contents.specs.Limits.{check_most}
use Rattle.book_ranges.proofs.check_most.Goals as goal

pub loop-x-init : goal.loop-x-init
unfolding check_most
loop-x-init c = all_start _ _

pub returns-in_err-need : goal.returns-in_err-need
returns-in_err-need c =
    handed_on _ c.from_residual.ensures ∙ sym (c.loop-x.invariant
    ∙ all_bad _ _ _ _ _ (omega arith) (sym c.need.ensures ∙ c.in_err-need.was))

pub loop-x-preserved : goal.loop-x-preserved
loop-x-preserved c =
    c.loop-x.invariant
    ∙ all_good _ _ _ _ _ 0 (omega arith) (need_zero _ _ _ _ (sym c.need.ensures ∙ c.in_ok-need.was))

pub returns : goal.returns
returns c = sym (c.loop-x.invariant ∙ all_done _ _ _ _ (omega arith))
