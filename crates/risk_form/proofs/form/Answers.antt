use mathlib.Core.Path.{◌≡◌, refl}
use native.Mathlib.Omega.{arith}
use Rattle.lists.specs.Sums.{sum_by}
use Rattle.lists.proofs.Sums.{sum_more}
use Rattle.risk_form.specs.Form.{form_of}
use Rattle.risk_form.proofs.Bounds.{row_of, row_most, rows_most}
use Rattle.risk_form.proofs.form.Goals as goal

pub loop-i-init : goal.loop-i-init
unfolding sum_by
loop-i-init c = (omega arith, refl)

pub row-requires : goal.row-requires
row-requires c = omega arith

pub plus-sum-requires : goal.plus-sum-requires
plus-sum-requires c =
    let r = c.args.correlation.now in
    let f = c.args.factors.now in
    rw (c.row.ensures, c.loop-i.invariant.1)
    (omega (
      arith,
      rows_most r f c.requires.0 c.requires.1 c.loop-i.i (omega arith),
      row_most r f c.requires.0 c.requires.1 c.loop-i.i 4 (omega arith) (omega arith),
    ))

pub loop-i-preserved : goal.loop-i-preserved
loop-i-preserved c =
    let t = c.row in
    let a = c.args in
    let l = c.loop-i in (
      omega arith,
      sum_more _ _ (row_of a.correlation.now a.factors.now) l.i _ _ _ l.invariant.1 t.ensures c.plus-sum.ensures,
    )

pub returns : goal.returns
unfolding form_of
returns c =
    let l = c.loop-i in
    let e : l.i ≡ 4 = omega arith in
    rw e at l.invariant.1
