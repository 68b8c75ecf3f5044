use mathlib.Core.Path.{◌≡◌, refl, ◌∙◌}
use Prim.Native.Nat.{◌≤◌, ◌<◌}
use native.Mathlib.Omega.{arith}
use lib.ListN.{length}
use mir.Syntax.{w64}
use mir.ValLaws.{to_z-of_z}
use Rattle.std.specs.List.{sum_by as list_sum}
use Rattle.lists.specs.Sums.{sum_below}
use Rattle.valuation.specs.Replies.{year_table}
use Rattle.signed.proofs.Sizes.{less_mag}
use Rattle.cash_flow.specs.CashFlow.{InYears, premiums, outgoes}
use Rattle.cash_flow.proofs.CashFlow.{premium_is, outgo_is, added_all}
use Rattle.present_value.specs.Outcome.{year_outgo, year_premium}
use Rattle.present_value.proofs.YearTable.{years_more, years_length, year_is}
use Rattle.present_value.proofs.Discounted.{in_discounted, outgo_discounted, premium_discounted}
use Rattle.present_value.proofs.Discounted.{liability_is}
use Rattle.present_value.proofs.value_group.Invariants.{terms, cells}
use Rattle.present_value.proofs.value_group.Goals as goal
use Rattle.present_value.proofs.value_group.Goals.{After-discount, At-loop-k}

pub curve_of-curve-requires : goal.curve_of-curve-requires
curve_of-curve-requires c = c.requires.3

pub undiscounted-years-requires : goal.undiscounted-years-requires
undiscounted-years-requires c =
    let a = c.requires in
    (a.0, a.1, omega arith, omega arith, a.3, a.4)

pub discount-requires : goal.discount-requires
discount-requires c =
    let y = c.undiscounted-years.ensures in
    (omega arith, omega arith, y.premium_is_in.most, y.outgo_in.most)

-- the years discounted are the valuation's
premium_back : (m : After-discount) →
    let a = m.args in
    InYears (year_premium a.book.now a.s.number a.group) 9000000000000000 0 50 (premiums m.discount.new.years)
premium_back m =
    let a = m.args in
    in_discounted _ _ _ _ _ _ _ _ _ m.curve_of-curve.ensures (premium_discounted a.book.now a.s.number a.group) refl
    (omega arith) m.undiscounted-years.ensures.premium_is_in m.discount.ensures.0

outgo_back : (m : After-discount) →
    let a = m.args in
    InYears (year_outgo a.book.now a.s.number a.group) 9000000000000000 0 50 (outgoes m.discount.new.years)
outgo_back m =
    let a = m.args in
    in_discounted _ _ _ _ _ _ _ _ _ m.curve_of-curve.ensures (outgo_discounted a.book.now a.s.number a.group) refl
    (omega arith) m.undiscounted-years.ensures.outgo_in m.discount.ensures.1

pub loop-k-init : goal.loop-k-init
unfolding year_table
loop-k-init c = (omega arith, refl)

-- the table keeps its length
long : (m : At-loop-k) → length m.loop-k.table ≡ length m.args.table.now
long m =
    let l = m.loop-k in
    let a = m.args in
    let s : 200 ≤ length a.table.now = m.requires.2 in
    years_length (terms a.book.now a.s.number a.group) (cells a.book.now a.s.number a.group)
    l.k a.table.now l.table (omega arith) l.invariant.1

pub put_year-requires : goal.put_year-requires
put_year-requires c =
    let lt : c.loop-k.k < 50 = c.loop-k-test.true in
    omega (arith, long (goal.at.put_year-requires c).At-loop-k, c.requires.2)

pub loop-k-preserved : goal.loop-k-preserved
loop-k-preserved c =
    let l = c.loop-k in
    let a = c.args in
    let t = terms a.book.now a.s.number a.group in
    let cs = cells a.book.now a.s.number a.group in
    let w = c.put_year in
    let lt : l.k < 50 = c.loop-k-test.true in
    let size : 200 ≤ length a.table.now = c.requires.2 in
    let years = c.undiscounted-years in
    let back = c.discount.new.years in
    let m = (goal.at.loop-k-preserved c).After-discount in
    let e = year_is t cs l.k _ _ _ _ (premium_is years.result years.ensures.premium_is_in l.k lt (omega arith))
    (outgo_is years.result years.ensures.outgo_in l.k lt (omega arith))
    (premium_is back (premium_back m) l.k lt (omega arith)) (outgo_is back (outgo_back m) l.k lt (omega arith)) in
    (omega arith, years_more t cs l.k _ a.table.now l.table w.new.table e (omega arith) l.invariant.1 w.ensures)

pub shape_of-table : goal.shape_of-table
shape_of-table c = long (goal.at.shape_of-table c).At-loop-k

-- and their totals
premium_total : (m : After-discount) →
    let a = m.args in
    (list_sum (λ y. y.premium) m.discount.new.years ≡ sum_below (year_premium a.book.now a.s.number a.group) 50)
    × (list_sum (λ y. y.premium) m.discount.new.years ≤ 450000000000000000)
premium_total m = added_all (λ y. y.premium) _ _ 50 m.discount.new.years m.discount.array_long (premium_back m)

outgo_total : (m : After-discount) →
    let a = m.args in
    (list_sum (λ y. y.outgo) m.discount.new.years ≡ sum_below (year_outgo a.book.now a.s.number a.group) 50)
    × (list_sum (λ y. y.outgo) m.discount.new.years ≤ 450000000000000000)
outgo_total m = added_all (λ y. y.outgo) _ _ 50 m.discount.new.years m.discount.array_long (outgo_back m)

pub total-total-requires : goal.total-total-requires
total-total-requires c =
    let m = (goal.at.total-total-requires c).After-discount in
    ((premium_total m).1, (outgo_total m).1)

pub less-requires : goal.less-requires
less-requires c =
    let m = (goal.at.less-requires c).After-discount in
    let t = c.total-total.ensures in
    omega (arith, t.0, t.1, (premium_total m).1, (outgo_total m).1)

pub returns : goal.returns
returns c =
    let l = c.loop-k in
    let a = c.args in
    let m = (goal.at.returns c).After-discount in
    let t = c.total-total.ensures in
    let e : l.k ≡ 50 = omega arith in
    let r = to_z-of_z w64 c.less.result (record { sfits = c.less.type_inv }) ∙ c.less.ensures in
    let paid = c.total-total.result.outgo in
    let earned = c.total-total.result.premium in
    record {
      liability_is = r ∙ liability_is a.book.now a.s.number a.group 50 paid earned refl
          (t.1 ∙ (outgo_total m).0) (t.0 ∙ (premium_total m).0);
      table_is = rw e at l.invariant.1;
      size = rw r (less_mag paid earned 450_000_000_000_000_000 (omega (arith, t.1, (outgo_total m).1))
          (omega (arith, t.0, (premium_total m).1)));
    }
