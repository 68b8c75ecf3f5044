use mathlib.Core.Path.{◌≡◌, refl, sym, ap, ◌∙◌}
use mathlib.Core.List.{List, ◌++◌}
use Prim.Native.Nat.{ℕ}
use native.Mathlib.Omega.{arith}
use lib.ListN.{length, drop}
use Rattle.valuation.specs.Portfolio.{row_at}
use Rattle.cell.specs.declared.Cell.{Cell}
use Rattle.cell.proofs.Cells.{state_ready, state_start, state_next, inforce_is, held_low, next_held}
use Rattle.cell.proofs.Agreement.{projectable, inforce_same}
use Rattle.lists.specs.Each.{each}
use Rattle.lists.proofs.Each.{each_behind_length, each_behind_more, each_same}
use Rattle.in_force_run.proofs.run.Goals as goal
use Rattle.in_force_run.proofs.run.Goals.{At-loop-k}

pub columns_of-columns-requires : goal.columns_of-columns-requires
columns_of-columns-requires c = c.requires.0

pub shifts_of-w-requires : goal.shifts_of-w-requires
shifts_of-w-requires c = c.requires.1

pub read_rows-requires : goal.read_rows-requires
read_rows-requires c = (c.shifts_of-w.ensures, c.requires.1, c.requires.2, c.requires.3)

pub field_of-requires : goal.field_of-requires
field_of-requires c =
    ((c.requires.3.0.first, omega (arith, c.requires.3.0.inside, c.requires.1.header.size)), omega arith)

pub new-cell-requires : goal.new-cell-requires
new-cell-requires c = omega (arith, c.field_of.ensures.0, c.requires.3.0.count)

pub loop-k-init : goal.loop-k-init
unfolding each row_at
loop-k-init c =
    let g = c.args in
    let e = c.field_of.ensures.0 in (
      omega arith,
      projectable g.book.now g.chain g.i c.requires.3 _ c.read_rows.ensures 0
          (omega arith),
      c.new-cell.ensures ∙ rw e (sym (state_start _ 0 _ g.setting)),
      refl,
    )

pub year_later-next-requires : goal.year_later-next-requires
year_later-next-requires c =
    let low = held_low _ c.loop-k.k _ c.columns_of-columns.ensures in (
      rw c.loop-k.invariant.2 (state_ready _ _ _ _ c.loop-k.invariant.1 c.loop-k.k c.loop-k-test.true),
      low.0,
      low.1,
    )

-- the numbers keep their length
kept : (m : At-loop-k)
    → length m.loop-k.out ≡ length
    m.args.out.now
kept m = each_behind_length _ m.loop-k.k _ m.loop-k.out (omega arith) m.loop-k.invariant.3

pub offset_bounds-out-k : goal.offset_bounds-out-k
offset_bounds-out-k c = omega (arith, kept (goal.at.offset_bounds-out-k c).At-loop-k)

pub bounds-out-k : goal.bounds-out-k
bounds-out-k c = omega (arith, kept (goal.at.bounds-out-k c).At-loop-k)

pub loop-k-preserved : goal.loop-k-preserved
loop-k-preserved c =
    let l = c.loop-k in (
      omega arith,
      l.invariant.1,
      next_held c.args.setting l.k _
          c.columns_of-columns.ensures
          c.read_rows.new.rows l.cell _ c.year_later-next.ensures ∙ rw
          l.invariant.2 (state_next _ _ _ _ l.k),
      each_behind_more _ l.k _ l.out _ _
          (omega (
            arith,
            c.requires.4,
            c.loop-k-test.true,
          )) l.invariant.3 refl
          (ap (λ (x : Cell). x.inforce) l.invariant.2 ∙ inforce_is _ _ _ _ l.k),
    )

pub shape_of-out : goal.shape_of-out
shape_of-out c = kept (goal.at.shape_of-out c).At-loop-k

pub returns : goal.returns
unfolding row_at
returns c =
    let l = c.loop-k in
    let g = c.args in
    let e : l.k ≡ 50 = omega arith in
    let same = inforce_same g.book.now g.chain g.i c.requires.3 _
    c.read_rows.ensures 0 (omega arith) g.setting c.requires.0 in
    (rw e at l.invariant.3) ∙ ap (λ (x : List ℕ). x ++ drop 50 g.out.now)
    (each_same _ _ 50 (λ k h. same k (omega arith)))
