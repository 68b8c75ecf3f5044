use Prim.Native.Nat.{◌-◌}
use native.Mathlib.Omega.{arith}
use Rattle.cash_flow.proofs.CashFlow.{premium_read, outgo_read}
use Rattle.present_value_span.proofs.Spans.{none_sooner}
use Rattle.present_value_span.proofs.end_of.Goals as goal

pub loop-k-preserved : goal.loop-k-preserved
loop-k-preserved c =
    let l = c.loop-k in
    let years = c.args.years.now in
    none_sooner _ _ _ _ l.k l.invariant c.loop-k-test.true
    (omega (arith, premium_read years (l.k - 1), c.if-years-k-gt0.false))
    (omega (arith, outgo_read years (l.k - 1), c.if-years-k-gt0-2.false))
