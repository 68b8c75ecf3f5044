use mathlib.Core.Path.{◌≡◌}
use Prim.Native.Nat.{◌+◌}
use native.Mathlib.Omega.{arith}
use Rattle.discount.proofs.Discounting.{stepped_none, stepped_more, stepped_two}
use Rattle.discount.proofs.step_years.Goals as goal

pub loop-k-init : goal.loop-k-init
loop-k-init c = (omega arith, omega arith, stepped_none _ _ _, stepped_none _ _ _)

pub step_year-requires : goal.step_year-requires
step_year-requires c =
    let l = c.loop-k in (
      omega arith,
      rw (l.invariant.2.later l.k (omega arith)) (c.requires.2.each l.k (omega arith)),
      rw (l.invariant.3.later l.k (omega arith)) (c.requires.3.each l.k (omega arith)),
    )

pub step_year-requires-in-loop-k : goal.step_year-requires-in-loop-k
step_year-requires-in-loop-k c =
    let e = c.step_year.ensures in
    let l = c.loop-k in
    let p = stepped_more _ _ _ l.k _ _ (omega arith) l.invariant.2 e.premium_after in
    let o = stepped_more _ _ _ l.k _ _ (omega arith) l.invariant.3 e.outgo_after in (
      omega arith,
      rw (p.later (l.k + 1) (omega arith)) (c.requires.2.each (l.k + 1) (omega arith)),
      rw (o.later (l.k + 1) (omega arith)) (c.requires.3.each (l.k + 1) (omega arith)),
    )

pub loop-k-preserved : goal.loop-k-preserved
loop-k-preserved c =
    let f = c.step_year-in-loop-k.ensures in
    let e = c.step_year.ensures in
    let l = c.loop-k in (
      omega arith,
      omega arith,
      stepped_two _ _ _ l.k _ _ _ (omega arith) l.invariant.2 e.premium_after f.premium_after,
      stepped_two _ _ _ l.k _ _ _ (omega arith) l.invariant.3 e.outgo_after f.outgo_after,
    )

pub step_year-requires-then-k-to : goal.step_year-requires-then-k-to
step_year-requires-then-k-to c =
    let l = c.loop-k in (
      omega arith,
      rw (l.invariant.2.later l.k (omega arith)) (c.requires.2.each l.k (omega arith)),
      rw (l.invariant.3.later l.k (omega arith)) (c.requires.3.each l.k (omega arith)),
    )

pub returns-then-k-to : goal.returns-then-k-to
returns-then-k-to c =
    let s = c.step_year-then-k-to.ensures in
    let l = c.loop-k in
    let e : l.k + 1 ≡ c.args.to = omega arith in (
      rw e at (stepped_more _ _ _ l.k _ _ (omega arith) l.invariant.2 s.premium_after),
      rw e at (stepped_more _ _ _ l.k _ _ (omega arith) l.invariant.3 s.outgo_after),
    )

pub returns-else-k-to : goal.returns-else-k-to
returns-else-k-to c =
    let l = c.loop-k in
    let e : l.k ≡ c.args.to = omega arith in
    (rw e at l.invariant.2, rw e at l.invariant.3)
