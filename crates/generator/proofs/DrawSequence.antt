-- Draws one after the other. Assumes nothing.
use Rattle.std.proofs.Common.{◌≡◌, ℕ, zero, suc, ◌+◌, refl, ap, ◌∙◌, add-one, arith}
use native.Mathlib.Numerals.{unary_clauses}
use Rattle.generator.specs.declared.GeneratorState.{GeneratorState}
use Rattle.generator.specs.Draws.{step, draw_of, state_after, draw_at}

pub after_none : (w : GeneratorState) → state_after w 0 ≡ w
unfolding state_after
after_none w = refl

pub after_more : (w : GeneratorState) (n : ℕ) → state_after w (n + 1) ≡ step (state_after w n)
unfolding state_after
after_more w n = rw (add-one n)

pub after_after : (w : GeneratorState) (a b : ℕ) → state_after (state_after w a) b ≡ state_after w (a + b)
unfolding state_after
after_after w a zero = simp unary_clauses
after_after w a (suc b) = simp unary_clauses (ap step (after_after w a b))

-- draw i from the words a draws on is draw a + i
pub draw_later : (w : GeneratorState) (a i : ℕ) → draw_at (state_after w a) i ≡ draw_at w (a + i)
unfolding draw_at
draw_later w a i =
    let e : a + (i + 1) ≡ a + i + 1 = omega arith in
    ap draw_of (after_after w a (i + 1)) ∙ ap (λ (n : ℕ). draw_of (state_after w n)) e
