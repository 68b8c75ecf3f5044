use mathlib.Core.Path.{◌∙◌}
use Prim.Native.Nat.{◌+◌}
use native.Mathlib.Omega.{arith}
use Rattle.book.specs.Layout.{chain_sex}
use Rattle.valuation.specs.Portfolio.{row_at}
use Rattle.chain_rows.proofs.Onward.{Reached, reached_first, reached_next, reached_same, rows_more}
use Rattle.chain_rows.proofs.read_links.Goals as goal
use Rattle.chain_rows.proofs.read_links.Goals.{then-class-lt-LAST_CLASS, else-class-lt-LAST_CLASS}

pub loop-r-init : goal.loop-r-init
loop-r-init c = (
  reached_first c.args.book.now c.args.chain c.args.i _ c.class_of-class.ensures.0
      c.requires.3,
  λ j h. absurd (omega arith),
)

pub loop-r-preserved : goal.loop-r-preserved
loop-r-preserved c =
    let l = c.loop-r in
    let a = c.args in
    let b = a.book.now in
    let h = l.invariant.0 in
    let next : Reached b a.chain a.i (l.r + 1) c.if-class-lt-LAST_CLASS.row c.if-class-lt-LAST_CLASS.class =
    elim c.if-class-lt-LAST_CLASS.branch [
      | then-class-lt-LAST_CLASS w ↦
          reached_next b a.chain a.i l.r l.row l.class h _ _ w.if-class-lt-LAST_CLASS.true
          (w.row-is ∙ w.next_of-row.ensures.0) w.class-is
      | else-class-lt-LAST_CLASS w ↦
          reached_same b a.chain a.i l.r l.row l.class h _ _ w.if-class-lt-LAST_CLASS.false w.row-is w.class-is
    ] in
    (next, rows_more b (chain_sex a.chain) (row_at b a.i) l.rows _ l.r l.row h.row_is l.invariant.1 c.put_row.ensures)
