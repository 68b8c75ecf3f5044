-- `discount::discount` meets its contract: each call is one step on the amounts discounted for one year less. The
-- measure is the number of years.
-- Assumes nothing.
use Prim.Native.Nat.{ℕ, ◌<◌}
use native.Mathlib.Omega.{arith}
use Rattle.discount.proofs.Discounting.{in_none, in_more, capacity, divisor_low}
use Rattle.discount.proofs.+discount.Goals as goal

pub returns-then-j-eq0 : goal.returns-then-j-eq0
returns-then-j-eq0 t c =
    let a = c.args in
    let z = c.if-j-eq0.true in
    (in_none _ _ _ a.j z c.requires.2, in_none _ _ _ a.j z c.requires.3)

pub discount-requires : goal.discount-requires
discount-requires t c =
    let r = c.requires in
    (omega arith, (omega arith, r.1, r.2, r.3))

pub step_years-requires : goal.step_years-requires
step_years-requires t c =
    let e = c.discount.ensures in
    let r = c.requires in
    (omega arith, r.1, capacity _ _ _ _ _ (omega arith) e.0, capacity _ _ _ _ _ (omega arith) e.1)

pub returns : goal.returns
returns t c =
    let a = c.args in
    let r = c.requires in
    let e = c.discount.ensures in
    let s = c.step_years.ensures in
    let low = λ (k : ℕ) (h : k < a.to). divisor_low a.curve.now k (omega arith) in
    let some : 0 < a.j = omega arith in
    (in_more _ _ _ _ _ _ some r.0 r.1 low e.0 s.0, in_more _ _ _ _ _ _ some r.0 r.1 low e.1 s.1)
