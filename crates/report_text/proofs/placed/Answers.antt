use mathlib.Core.Path.{refl, ◌∙◌}
use native.Mathlib.Omega.{arith}
use lib.ListN.{length-set}
use Rattle.report_text.proofs.Figures.{placed_none, placed_more}
use Rattle.report_text.proofs.placed.Goals as goal

pub loop-k-init : goal.loop-k-init
loop-k-init c = (refl, placed_none _ _ _)

pub loop-k-preserved : goal.loop-k-preserved
loop-k-preserved c =
    let l = c.loop-k in (
      length-set l.year-items _ _ ∙ l.invariant.0,
      placed_more _ _ _ l.k _ (omega (arith, c.loop-k-test.true, l.invariant.0)) (refl, refl) l.invariant.1,
    )
