use mathlib.Core.Path.{refl, sym, ap, ◌∙◌}
use Rattle.generator.proofs.DrawSequence.{after_none}
use Rattle.practice_contents.specs.Drawn.{drawn_number}
use Rattle.practice_draws.proofs.DrawnLists.{after_draw, draw_is, filled_none, filled_more}
use Rattle.practice_draws.proofs.fill_table.Goals as goal

pub loop-number-init : goal.loop-number-init
loop-number-init c = (sym (after_none _), filled_none _ _ refl)

pub loop-number-preserved : goal.loop-number-preserved
loop-number-preserved c =
    let l = c.loop-number in
    let number = c.drawn_number.ensures.0
    ∙ ap (drawn_number _) (draw_is _ l.number-index l.invariant.0 c.next_draw.ensures) in (
      after_draw _ l.number-index l.invariant.0 c.next_draw.ensures _ refl,
      filled_more _ l.number-index c.loop-number-test.true refl number l.invariant.1,
    )
