use mathlib.Core.Path.{refl, sym, ap, ◌∙◌}
use Prim.Native.Nat.{◌+◌, ◌*◌}
use native.Mathlib.Omega.{arith}
use borrow.Author.Rules.{rules}
use Rattle.book.specs.Layout.{most_count, most_rate, most_amount}
use Rattle.generator.proofs.DrawSequence.{after_none}
use Rattle.practice_contents.specs.Drawn.{drawn_number}
use Rattle.practice_draws.proofs.DrawnLists.{after_draw, draw_is, filled_none, filled_more}
use Rattle.practice_draws.proofs.fill_lists.Goals as goal

pub loop-i-init : goal.loop-i-init
loop-i-init c = (
  omega arith,
  sym (after_none _),
  filled_none _ _ (search rules),
  filled_none _ _ (search rules),
  filled_none _ _ (search rules),
  filled_none _ _ (search rules),
)

pub loop-i-preserved : goal.loop-i-preserved
loop-i-preserved c =
    let l = c.loop-i in
    let few = c.loop-i-test.true in
    let w₀ = l.invariant.1 in
    let w₁ = after_draw _ (4 * l.i) w₀ c.next_draw.ensures (4 * l.i + 1) refl in
    let w₂ = after_draw _ (4 * l.i + 1) w₁ c.next_draw-in-loop-i.ensures (4 * l.i + 2) (omega arith) in
    let w₃ = after_draw _ (4 * l.i + 2) w₂ c.next_draw-in-loop-i-2.ensures (4 * l.i + 3) (omega arith) in
    let d₀ = draw_is _ (4 * l.i) w₀ c.next_draw.ensures in
    let d₁ = draw_is _ (4 * l.i + 1) w₁ c.next_draw-in-loop-i.ensures in
    let d₂ = draw_is _ (4 * l.i + 2) w₂ c.next_draw-in-loop-i-2.ensures in
    let d₃ = draw_is _ (4 * l.i + 3) w₃ c.next_draw-in-loop-i-3.ensures in (
      omega arith,
      after_draw _ (4 * l.i + 3) w₃ c.next_draw-in-loop-i-3.ensures (4 * (l.i + 1)) (omega arith),
      filled_more _ l.i few refl (c.drawn_number.ensures.0 ∙ ap (drawn_number most_count) d₀) l.invariant.2,
      filled_more _ l.i few refl (c.drawn_number-in-loop-i.ensures.0 ∙ ap (drawn_number most_rate) d₁) l.invariant.3,
      filled_more _ l.i few refl (c.drawn_number-in-loop-i-2.ensures.0 ∙ ap (drawn_number most_amount) d₂)
          l.invariant.4,
      filled_more _ l.i few refl (c.drawn_number-in-loop-i-3.ensures.0 ∙ ap (drawn_number most_amount) d₃)
          l.invariant.5,
    )
