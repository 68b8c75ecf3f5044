use mathlib.Core.Path.{refl, sym, ap, ◌∙◌}
use mir.Syntax.{w64}
use mir.ValLaws.{to_z-of_z}
use Rattle.generator.proofs.DrawSequence.{after_none}
use Rattle.practice_contents.specs.Drawn.{drawn_rate}
use Rattle.practice_draws.proofs.DrawnLists.{after_draw, draw_is, filled_none, filled_more}
use Rattle.practice_draws.proofs.fill_curve.Goals as goal

pub loop-rate-init : goal.loop-rate-init
loop-rate-init c = (sym (after_none _), filled_none _ _ refl)

pub loop-rate-preserved : goal.loop-rate-preserved
loop-rate-preserved c =
    let l = c.loop-rate in
    let rate = to_z-of_z w64 c.drawn_rate.result (record { sfits = c.drawn_rate.type_inv }) ∙ c.drawn_rate.ensures
    ∙ ap drawn_rate (draw_is _ l.rate-index l.invariant.0 c.next_draw.ensures) in (
      after_draw _ l.rate-index l.invariant.0 c.next_draw.ensures _ refl,
      filled_more _ l.rate-index c.loop-rate-test.true refl rate l.invariant.1,
    )
