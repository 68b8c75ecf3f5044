-- `present_value_span::amounts_in` meets its contract: what is added are the years from `from` on that have an amount.
-- Assumes nothing.
use mathlib.Core.Path.{◌≡◌}
use Prim.Native.Nat.{◌+◌, ◌-◌, ◌*◌, ◌≤◌}
use native.Mathlib.Omega.{arith}
use lib.ListN.{length, take, drop}
use Rattle.std.specs.List.{sum_by as list_sum}
use Rattle.lists.specs.Sums.{sum_below}
use Rattle.lists.proofs.AtMost.{most_fewer}
use Rattle.valuation.specs.Portfolio.{divisor_of}
use Rattle.cash_flow.specs.CashFlow.{InYears, premiums, outgoes}
use Rattle.cash_flow.proofs.CashFlow.{added, added_most}
use Rattle.present_value.specs.Outcome.{year_outgo, year_premium}
use Rattle.present_value.proofs.Discounted.{in_discounted, outgo_discounted, premium_discounted}
use Rattle.present_value_span.proofs.Spans.{in_fewer, sum_to_end}
use Rattle.present_value_span.proofs.amounts_in.Goals as goal
use Rattle.present_value_span.proofs.amounts_in.Goals.{After-end_of-end, After-discount}

pub undiscounted-years-requires : goal.undiscounted-years-requires
undiscounted-years-requires c = c.requires.table_in

pub end_of-end-requires : goal.end_of-end-requires
end_of-end-requires c = (c.requires.table_in.2, c.requires.table_in.3)

-- the years from the end on give nothing
outgo_to_end : (c : After-end_of-end) →
    let f = year_outgo c.args.book.now c.args.s.number c.args.group in
    sum_below f c.end_of-end.result ≡ sum_below f c.args.span.to
outgo_to_end c =
    let n = c.end_of-end.ensures in
    sum_to_end (divisor_of c.args.book.now) _ _ _ _ _ _ _ (outgo_discounted _ c.args.s.number c.args.group)
    c.undiscounted-years.ensures.outgo_in
    n.least n.most n.no_outgo

premium_to_end : (c : After-end_of-end) →
    let f = year_premium c.args.book.now c.args.s.number c.args.group in
    sum_below f c.end_of-end.result ≡ sum_below f c.args.span.to
premium_to_end c =
    let n = c.end_of-end.ensures in
    sum_to_end (divisor_of c.args.book.now) _ _ _ _ _ _ _
    (premium_discounted _ c.args.s.number c.args.group) c.undiscounted-years.ensures.premium_is_in
    n.least n.most n.no_premium

pub discount-requires : goal.discount-requires
discount-requires c =
    let y = c.undiscounted-years.ensures in
    let n = c.end_of-end.ensures in (
      omega arith,
      omega (arith, n.most, c.requires.table_in.3),
      most_fewer y.premium_is_in.most n.most,
      most_fewer y.outgo_in.most n.most,
    )

-- the years discounted are the valuation's
last : (m : After-discount) → m.end_of-end.result - 1 + 1 ≡ m.end_of-end.result
last m = omega (arith, m.if-end-eq0.false)

premium_back : (m : After-discount) →
    let a = m.args in
    InYears (year_premium a.book.now a.s.number a.group) 9000000000000000 a.span.from m.end_of-end.result
    (premiums m.discount.new.years)
premium_back m =
    let a = m.args in
    let n = m.end_of-end.ensures in
    in_discounted _ _ _ _ _ _ _ _ _ m.requires.curve_of (premium_discounted a.book.now a.s.number a.group) (last m)
    (omega (arith, n.most, m.requires.table_in.3))
    (in_fewer _ _ _ _ _ _ n.most m.undiscounted-years.ensures.premium_is_in) m.discount.ensures.0

outgo_back : (m : After-discount) →
    let a = m.args in
    InYears (year_outgo a.book.now a.s.number a.group) 9000000000000000 a.span.from m.end_of-end.result
    (outgoes m.discount.new.years)
outgo_back m =
    let a = m.args in
    let n = m.end_of-end.ensures in
    in_discounted _ _ _ _ _ _ _ _ _ m.requires.curve_of (outgo_discounted a.book.now a.s.number a.group) (last m)
    (omega (arith, n.most, m.requires.table_in.3))
    (in_fewer _ _ _ _ _ _ n.most m.undiscounted-years.ensures.outgo_in) m.discount.ensures.1

-- the totals of those that are added
premium_total : (m : After-discount) →
    let a = m.args in
    let f = year_premium a.book.now a.s.number a.group in
    let n = m.end_of-end.result - a.span.from in
    let total = list_sum (λ y. y.premium) (take n (drop a.span.from m.discount.new.years)) in
    (sum_below f a.span.from + total ≡ sum_below f m.end_of-end.result) × (total ≤ 9000000000000000 * n)
premium_total m =
    let a = m.args in
    let n = m.end_of-end.ensures in
    let e : a.span.from + (m.end_of-end.result - a.span.from) ≡ m.end_of-end.result = omega (arith, n.least) in
    let low : a.span.from + (m.end_of-end.result - a.span.from) ≤ m.end_of-end.result = omega (arith, e) in
    let long : a.span.from + (m.end_of-end.result - a.span.from) ≤ length m.discount.new.years =
    omega (arith, e, n.most, m.requires.table_in.3, m.discount.array_long) in (
      rw e at (added (λ y. y.premium) _ _ _ _ m.discount.new.years (premium_back m) _ low long),
      added_most (λ y. y.premium) _ _ _ _ m.discount.new.years (premium_back m) _ low long,
    )

outgo_total : (m : After-discount) →
    let a = m.args in
    let f = year_outgo a.book.now a.s.number a.group in
    let n = m.end_of-end.result - a.span.from in
    let total = list_sum (λ y. y.outgo) (take n (drop a.span.from m.discount.new.years)) in
    (sum_below f a.span.from + total ≡ sum_below f m.end_of-end.result) × (total ≤ 9000000000000000 * n)
outgo_total m =
    let a = m.args in
    let n = m.end_of-end.ensures in
    let e : a.span.from + (m.end_of-end.result - a.span.from) ≡ m.end_of-end.result = omega (arith, n.least) in
    let low : a.span.from + (m.end_of-end.result - a.span.from) ≤ m.end_of-end.result = omega (arith, e) in
    let long : a.span.from + (m.end_of-end.result - a.span.from) ≤ length m.discount.new.years =
    omega (arith, e, n.most, m.requires.table_in.3, m.discount.array_long) in (
      rw e at (added (λ y. y.outgo) _ _ _ _ m.discount.new.years (outgo_back m) _ low long),
      added_most (λ y. y.outgo) _ _ _ _ m.discount.new.years (outgo_back m) _ low long,
    )

pub total-requires : goal.total-requires
total-requires c =
    let m = (goal.at.total-requires c).After-discount in
    let n = c.end_of-end.ensures in (
      omega (arith, (premium_total m).1, n.most, c.requires.table_in.3),
      omega (arith, (outgo_total m).1, n.most, c.requires.table_in.3),
    )

pub returns-then-end-eq0 : goal.returns-then-end-eq0
returns-then-end-eq0 c =
    let z : c.args.span.from ≡ c.end_of-end.result =
    omega (arith, c.end_of-end.ensures.least, c.if-end-eq0.true) in record {
      outgo_is = rw z (omega (arith, outgo_to_end (goal.at.returns-then-end-eq0 c).After-end_of-end));
      premium_is = rw z (omega (arith, premium_to_end (goal.at.returns-then-end-eq0 c).After-end_of-end));
      outgo_most = omega arith;
      premium_most = omega arith;
    }

pub returns : goal.returns
returns c =
    let m = (goal.at.returns c).After-discount in
    let t = c.total.ensures in
    let n = c.end_of-end.ensures in
    record {
      outgo_is = omega (arith, t.1, (outgo_total m).0, outgo_to_end (goal.at.returns c).After-end_of-end);
      premium_is = omega (arith, t.0, (premium_total m).0, premium_to_end (goal.at.returns c).After-end_of-end);
      outgo_most = omega (arith, t.1, (outgo_total m).1, n.most);
      premium_most = omega (arith, t.0, (premium_total m).1, n.most);
    }
