use mathlib.Core.Path.{◌≡◌, refl}
use native.Mathlib.Omega.{arith}
use Rattle.lists.specs.Sums.{sum_by}
use Rattle.lists.proofs.Sums.{sum_more}
use Rattle.risk_form.specs.Form.{term_of}
use Rattle.risk_form.proofs.Bounds.{term_most, row_most}
use Rattle.risk_form.proofs.CorrelatedFactors.row.Goals as goal

pub loop-j-init : goal.loop-j-init
unfolding sum_by
loop-j-init c = (omega arith, refl)

pub term-requires : goal.term-requires
term-requires c = (c.requires, omega arith)

pub plus-sum-requires : goal.plus-sum-requires
plus-sum-requires c =
    let w = c.args.self.now in
    let row = row_most w.correlation w.factors w.known w.small c.args.i c.loop-j.j in
    let term = term_most w.correlation w.factors w.known w.small c.args.i c.loop-j.j in
    rw (c.term.ensures, c.loop-j.invariant.1)
    (omega (arith, row (omega arith) (omega arith), term (omega arith) (omega arith)))

pub loop-j-preserved : goal.loop-j-preserved
loop-j-preserved c =
    let t = c.term in
    let a = c.args in
    let l = c.loop-j in (
      omega arith,
      sum_more _ _ (term_of a.self.now.correlation a.self.now.factors a.i) l.j _ _ _ l.invariant.1 t.ensures
          c.plus-sum.ensures,
    )

pub returns : goal.returns
returns c =
    let l = c.loop-j in
    let e : l.j ≡ 4 = omega arith in
    rw e at l.invariant.1
