-- `risk_scaling::scaled` meets its contract: the size of the difference, scaled, with its sign. Assumes nothing.
use mathlib.Core.Path.{ap, ◌∙◌}
use Prim.Native.Nat.{ℕ, ◌*◌, ◌/◌}
use native.Mathlib.Omega.{arith}
use Rattle.signed.specs.Signs.{with_sign}
use Rattle.risk_scaling.proofs.Sizes.{scaled_capacity, scaled_most, scaled_sign}
use Rattle.risk_scaling.proofs.scaled.Goals as goal

pub mul_div-requires : goal.mul_div-requires
mul_div-requires c =
    let a = c.args in
    let m = c.size-thousands.result / 100000 in
    let capacity = scaled_capacity m a.coefficient a.span (omega arith) (omega arith) (omega arith)
    (omega arith) in
    (omega arith, omega (arith, capacity))

pub with_size-requires : goal.with_size-requires
with_size-requires c =
    let a = c.args in
    rw c.mul_div.ensures
    (scaled_most (c.size-thousands.result / 100000) a.coefficient a.span (omega arith) (omega arith) (omega arith)
    (omega arith))

pub returns : goal.returns
returns c =
    let a = c.args in
    let d = a.difference.number in
    c.with_size.ensures
    ∙ ap (with_sign d)
    (c.mul_div.ensures
    ∙ ap (λ (n : ℕ). n / 100000 * a.coefficient / (1000 * a.span)) c.size-thousands.ensures.0)
    ∙ scaled_sign d a.coefficient a.span
