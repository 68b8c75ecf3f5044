use mathlib.Core.Path.{◌≡◌, refl, ◌∙◌}
use Prim.Native.Nat.{◌+◌, ◌*◌, ◌<◌}
use native.Mathlib.Omega.{arith}
use lib.ListN.{get_or, length-set}
use Rattle.settings_columns.proofs.Held.{projection_low}
use Rattle.group_projection.proofs.Serving.{premium_served, claims_served}
use Rattle.cash_flow.proofs.CashFlow.{outgo_of_lem, premium_of, in_none, in_more}
use Rattle.cash_flow.specs.CashFlow.{outgo_before}
use Rattle.cash_flow.proofs.undiscounted.Goals as goal
use Rattle.cash_flow.proofs.undiscounted.Goals.{In-loop-k}

pub cost_rate_of-rate-requires : goal.cost_rate_of-rate-requires
cost_rate_of-rate-requires c = let a = c.requires in (a.0, a.1, a.4)

pub loop-k-init : goal.loop-k-init
loop-k-init c = (omega arith, omega arith, refl, in_none _ _ _, in_none _ _ _)

-- a year of the loop is one of the fifty, and its numbers stand in the table
here : (m : In-loop-k)
    → 10 * m.loop-k.k + 2 * m.args.s.projection + 1 < 500
here m =
    omega (arith, m.loop-k-test.true, m.requires.3, m.args.s.projection_is, projection_low m.args.s.number)

pub outgo-spent-requires : goal.outgo-spent-requires
outgo-spent-requires c = (
  c.args.s.weighed,
  c.cost_rate_of-rate.ensures.1,
  c.requires.5.most.each _ (omega (arith, here (goal.at.outgo-spent-requires c).In-loop-k)),
  c.requires.5.most.each _ (omega (arith, here (goal.at.outgo-spent-requires c).In-loop-k)),
)

pub loop-k-preserved : goal.loop-k-preserved
loop-k-preserved c =
    let o = c.outgo-spent in
    let l = c.loop-k in
    let r = c.cost_rate_of-rate in
    let b = c.args.book.now in
    let s = c.args.s.number in
    let p = c.args.s.projection in
    let g = c.args.group in
    let t = c.requires.5 in
    let lt : l.k < 50 = omega (arith, c.loop-k-test.true, c.requires.3) in
    let due = get_or c.args.numbers.now (10 * l.k + 2 * p) 0 in
    let claims = get_or c.args.numbers.now (10 * l.k + 2 * p + 1) 0 in
    let due-is = premium_served b g s p l.k _ t c.args.s.known c.args.s.projection_is lt in
    let claims_is = claims_served b g s p l.k _ t c.args.s.known c.args.s.projection_is lt in
    let eo : o.result ≡ outgo_before b s g l.k =
    outgo_of_lem b s g l.k r.result due claims o.result (rw c.args.s.outgo_is at o.ensures.0) r.ensures.0
    due-is claims_is in (
      omega arith,
      omega (arith, c.loop-k-test.true),
      length-set l.years l.k _ ∙ l.invariant.2,
      in_more (λ y. y.premium) _ _ _ l.k _ l.years (omega (arith, l.invariant.2)) l.invariant.3
          (premium_of b s g l.k due o.result c.counted.result c.counted.ensures.0 due-is eo)
          (omega (
            arith,
            c.counted.ensures.1,
            t.most.each (10 * l.k + 2 * p) (omega (
              arith,
              here (goal.at.loop-k-preserved c).In-loop-k,
            )),
          )),
      in_more (λ y. y.outgo) _ _ _ l.k _ l.years (omega (arith, l.invariant.2)) l.invariant.4 eo
          (omega (arith, o.ensures.1)),
    )

pub returns : goal.returns
returns c =
    let l = c.loop-k in
    let e : l.k ≡ c.args.span.to = omega arith in
    record { premium_is_in = rw e at l.invariant.3; outgo_in = rw e at l.invariant.4 }

pub overflow_mul-j : goal.overflow_mul-j
overflow_mul-j c = omega (arith, here (goal.at.overflow_mul-j c).In-loop-k)

pub overflow_mul-j-in-loop-k : goal.overflow_mul-j-in-loop-k
overflow_mul-j-in-loop-k c = omega (arith, here (goal.at.overflow_mul-j-in-loop-k c).In-loop-k)

pub overflow_add-j : goal.overflow_add-j
overflow_add-j c = omega (arith, here (goal.at.overflow_add-j c).In-loop-k)

pub offset_bounds-numbers-j : goal.offset_bounds-numbers-j
offset_bounds-numbers-j c = omega (arith, here (goal.at.offset_bounds-numbers-j c).In-loop-k)

pub bounds-numbers-j : goal.bounds-numbers-j
bounds-numbers-j c = omega (arith, here (goal.at.bounds-numbers-j c).In-loop-k)

pub overflow_add-j-in-loop-k : goal.overflow_add-j-in-loop-k
overflow_add-j-in-loop-k c = omega (arith, here (goal.at.overflow_add-j-in-loop-k c).In-loop-k)

pub offset_bounds-numbers-j-in-loop-k : goal.offset_bounds-numbers-j-in-loop-k
offset_bounds-numbers-j-in-loop-k c = omega (arith, here (goal.at.offset_bounds-numbers-j-in-loop-k c).In-loop-k)

pub bounds-numbers-j-in-loop-k : goal.bounds-numbers-j-in-loop-k
bounds-numbers-j-in-loop-k c = omega (arith, here (goal.at.bounds-numbers-j-in-loop-k c).In-loop-k)
