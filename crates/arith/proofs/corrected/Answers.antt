-- `arith::corrected` meets its contract: the lower halves say what is left, and that says the quotient. Assumes
-- nothing.
use Rattle.std.proofs.Common.{◌≡◌, ℕ, ◌+◌, ◌-◌, ◌*◌, ◌%◌, ◌<◌, sym, ap, ◌∙◌, arith}
use Rattle.arith.proofs.Division.{left_is, quotient_here, quotient_next}
use Rattle.arith.proofs.corrected.Goals as goal
use Rattle.arith.proofs.corrected.Goals.{After-wrapping_sub_u64-left}

-- what is left, from its lower half
left : (m : After-wrapping_sub_u64-left)
    → m.wrapping_sub_u64-left.result ≡ m.args.x * m.args.w - m.args.q * m.args.d
left m =
    left_is (m.args.x * m.args.w) (m.args.q * m.args.d) m.args.d _ m.requires.2 m.requires.3 m.requires.0
    (omega arith)
    (ap (λ (n : ℕ). (m.wrapping_sub_u64-left.result + n) % 18446744073709551616) (sym m.mul_low-2.ensures) ∙
    m.wrapping_sub_u64-left.ensures.value ∙ m.mul_low.ensures)

-- what is left is below the divisor as soon as its lower half is
below : {l x d : ℕ} → l ≡ x → l < d → x < d
below e h = omega (arith, e, h)

pub returns-then-left-d : goal.returns-then-left-d
returns-then-left-d c =
    quotient_here (c.args.x * c.args.w) c.args.d c.args.q c.requires.2
    (below (left c.before) c.if-left-d.true)

pub returns-else-left-d : goal.returns-else-left-d
returns-else-left-d c =
    quotient_next (c.args.x * c.args.w) c.args.d c.args.q (omega arith) c.requires.2 c.requires.3
    (omega (arith, left c.before, c.if-left-d.false))
