use mathlib.Core.Path.{◌≡◌, refl, sym, ap, ◌∙◌}
use mathlib.Core.List.{List}
use Prim.Native.Nat.{ℕ, ◌+◌, ◌-◌, ◌≤◌}
use native.Mathlib.Omega.{arith}
use Rattle.lists.proofs.AtMost.{most_higher}
use Rattle.book.specs.Layout.{class_of, field_of, count_offset}
use Rattle.book.specs.Rules.{RecordRules}
use Rattle.book.specs.Reading.{ChainFrom, Inside, Standing}
use Rattle.book.proofs.Valid.{chain_here, chain_next}
use Rattle.settings_decrements.specs.Decrements.{decrements_of}
use Rattle.valuation.specs.Portfolio.{row_at, links_from}
use Rattle.valuation.proofs.Rows.{chain_standing}
use Rattle.valuation.proofs.Members.{counted, links_counted}
use Rattle.cell.specs.States.{cell_in, Projectable}
use Rattle.cell_projection.specs.Tables.{amount_by, amount_in, chosen, added, added_all}
use Rattle.cell_projection.proofs.Records.{projectable_here, amounts_added, amount_in_le}
use Rattle.group_projection.proofs.Adding.{carry_start, carry_more, carry_end, cells_more, cells_end}
use Rattle.group_projection.proofs.Adding.{chain_cells, row_next}
use Rattle.group_projection.proofs.add_cells.Goals as goal
use Rattle.group_projection.proofs.add_cells.Goals.{At-loop-above}

-- what holds at the loop, of the head and of record i
module _ (m : At-loop-above) where
  abbrev book : List ℕ
  book = m.args.book.now

  abbrev chain : ℕ
  chain = m.args.chain

  abbrev head : ℕ
  head = m.args.head

  abbrev left : ℕ
  left = 120 - m.class_of-above.result

  head_chain : ChainFrom book 120 chain left head
  head_chain = rw m.loop-above.invariant.1 m.requires.1.1

  links : counted book left head ≡ links_from book head 121
  links = sym (links_counted book chain left head 121 head_chain (omega arith))

  few_left : left ≤ 120
  few_left = omega arith

  rules : RecordRules book 120 chain m.loop-above.i
  rules = chain_here _ 120 _ m.loop-above.above m.loop-above.i m.loop-above.invariant.4

  inside : Inside book m.loop-above.i
  inside = (rules.first, omega (arith, rules.inside, m.requires.0.header.size))

  stands : Standing book 120 chain m.loop-above.i
  stands = chain_standing book chain m.loop-above.above m.loop-above.i m.loop-above.invariant.4
      (omega (arith, m.loop-above.invariant.0, few_left))

  fits : m.loop-above.row ≤ 120 - class_of book head
  fits = omega (arith, m.loop-above.invariant.0, m.loop-above.invariant.1)

  -- with the count that was read
  module _ (count : ℕ) (e : count ≡ field_of book m.loop-above.i count_offset) where
    projectable : Projectable m.args.rows.now m.loop-above.row count
    projectable = projectable_here book chain head m.requires.1 _ m.requires.2 m.loop-above.row m.loop-above.i count
        fits m.loop-above.invariant.3 e

    amounts_are : (u v : List ℕ)
        → v ≡ added (chosen m.args.which (amount_by (cell_in m.args.rows.now m.loop-above.row count))) 500
        u → v ≡ added (amount_in book m.args.which m.loop-above.i) 500 u
    amounts_are u v h =
        h ∙ amounts_added book chain head m.requires.1 _ m.requires.2 m.loop-above.row m.loop-above.i count fits
        m.loop-above.invariant.3 e m.args.which u

pub loop-above-init : goal.loop-above-init
unfolding row_at
loop-above-init c =
    let e = c.class_of-above.ensures.0 in (
      omega arith,
      rw e,
      omega arith,
      refl,
      rw e c.requires.1.1,
      carry_start _ _ _ _ _ c.requires.4,
      omega arith,
    )

pub field_of-count-requires : goal.field_of-count-requires
field_of-count-requires c =
    let m = (goal.at.field_of-count-requires c).At-loop-above in
    (inside m, omega arith)

pub project_by-requires : goal.project_by-requires
project_by-requires c =
    let m = (goal.at.project_by-requires c).At-loop-above in (
      projectable m _ c.field_of-count.ensures.0,
      c.requires.3,
      most_higher c.loop-above.invariant.5.1 (omega (arith, few_left m)),
      c.columns_in-one.ensures,
    )

pub holds-n-requires : goal.holds-n-requires
holds-n-requires c =
    let m = (goal.at.holds-n-requires c).At-loop-above in inside m

pub returns-then-above-eq0 : goal.returns-then-above-eq0
returns-then-above-eq0 c =
    let m = (goal.at.returns-then-above-eq0 c).At-loop-above in
    let l = c.loop-above in
    let b = c.args.book.now in
    let none : l.above ≡ 0 = c.if-above-eq0.true in
    record {
      sums = carry_end (amount_in b c.args.which) b (left m) c.args.head _ l.above l.i l.sums _ none
          l.invariant.5
          (amounts_are m _ c.field_of-count.ensures.0 _ _
          c.project_by.ensures)
          ∙ ap (λ (x : List ℕ). added_all (amount_in b c.args.which) x c.args.sums.now) (links m);
      n_is = sym (cells_end b l.n l.above l.i _ none c.holds-n.ensures.0) ∙ l.invariant.6 ∙ chain_cells
          b (decrements_of b 0) c.args.chain (left m) c.args.head (head_chain m) (few_left m);
      few = omega (arith, l.invariant.0, l.invariant.2, few_left m, c.holds-n.ensures.1);
    }

pub next_of-i-requires : goal.next_of-i-requires
next_of-i-requires c =
    let m = (goal.at.next_of-i-requires c).At-loop-above in inside m

pub loop-above-preserved : goal.loop-above-preserved
loop-above-preserved c =
    let m = (goal.at.loop-above-preserved c).At-loop-above in
    let l = c.loop-above in
    let b = c.args.book.now in
    let more : l.above ≡ l.above - 1 + 1 = omega (arith, c.if-above-eq0.false) in
    let next = c.next_of-i.ensures.0 in (
      omega (arith, l.invariant.0, more),
      l.invariant.1,
      omega (arith, l.invariant.2, c.holds-n.ensures.1),
      rw next (row_next b c.args.chain c.args.head l.row l.above l.i l.invariant.4 (omega (arith, more)) l.invariant.3),
      rw next (chain_next b 120 c.args.chain l.above (l.above - 1) l.i more l.invariant.4),
      rw next (carry_more (amount_in b c.args.which) b _ _ _ l.above (l.above - 1) l.i l.sums _ more
          (omega (arith, l.invariant.0)) l.invariant.5 (amount_in_le b c.args.which c.args.chain l.i (stands m))
          (amounts_are m _ c.field_of-count.ensures.0 _ _
          c.project_by.ensures)),
      rw next (sym (cells_more b l.n l.above (l.above - 1) l.i _ more (rules m).first
          c.holds-n.ensures.0) ∙ l.invariant.6),
    )
