-- `report_years::year_table` meets its contract: the years are those of the product group's sums, before discounting.
-- Assumes nothing.
use mathlib.Core.Logic.{inr}
use mathlib.Core.Path.{◌≡◌, refl, ap, ◌∙◌}
use native.Mathlib.Omega.{arith}
use lib.ListN.{get_or}
use Rattle.std.specs.Prelude.{Some}
use Rattle.std.proofs.Common.{rules, of_calls}
use Rattle.cash_flow.proofs.CashFlow.{premium_is, outgo_is}
use Rattle.settings_columns.proofs.Held.{projection_low}
use Rattle.report_years.proofs.year_table.Goals as goal

pub group_sums-requires : goal.group_sums-requires
group_sums-requires c =
    let asked = c.requires in (
      asked.weights,
      asked.book,
      asked.lo,
      asked.hi,
      omega (arith, c.args.s.projection_is, projection_low c.args.s.number),
      refl,
    )

pub undiscounted-years-requires : goal.undiscounted-years-requires
undiscounted-years-requires c =
    let asked = c.requires in (
      asked.lo,
      asked.hi,
      omega arith,
      omega arith,
      asked.book,
      c.group_sums.ensures.table _ (projection_low _) (inr (ap Some c.args.s.projection_is)),
    )

pub returns : goal.returns
returns c =
    let p = c.placed.ensures in
    let u = c.undiscounted-years.ensures in
    let years = c.undiscounted-years.result in
    record {
      premium_is = λ k h.
          let (_, _, called) = c.map-premium.ensures.items.at k (record { premium = 0; outgo = 0 }) 0 h in
          let e : get_or c.map-premium.result k 0 ≡ (get_or years k (record { premium = 0; outgo = 0 })).premium =
          search (rules, of_calls) in
          p.premium_column_at k h ∙ e ∙ premium_is years u.premium_is_in k h (omega arith);
      outgo_is = λ k h.
          let (_, _, called) = c.map-outgo.ensures.items.at k (record { premium = 0; outgo = 0 }) 0 h in
          let e : get_or c.map-outgo.result k 0 ≡ (get_or years k (record { premium = 0; outgo = 0 })).outgo =
          search (rules, of_calls) in
          p.outgo_column_at k h ∙ e ∙ outgo_is years u.outgo_in k h (omega arith);
    }
