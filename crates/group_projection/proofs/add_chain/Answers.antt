-- `group_projection::add_chain` meets its contract: an empty chain adds nothing; of any other the rows are read and its
-- cells added. Assumes nothing.
use mathlib.Core.Path.{refl, sym, ap, ◌∙◌}
use Prim.Native.Nat.{ℕ}
use native.Mathlib.Omega.{arith}
use Rattle.book.specs.Cells.{held_in, held_from}
use Rattle.book.specs.Reading.{Standing}
use Rattle.valuation.specs.Portfolio.{links_from}
use Rattle.valuation.proofs.Rows.{chain_standing}
use Rattle.cell_projection.specs.Tables.{amount_in, added_all}
use Rattle.group_projection.proofs.Adding.{links_empty, cells_empty, head_chain}
use Rattle.group_projection.proofs.add_chain.Goals as goal
use Rattle.group_projection.proofs.add_chain.Goals.{Else-head-eq0}

pub returns-then-head-eq0 : goal.returns-then-head-eq0
unfolding added_all
returns-then-head-eq0 c =
    let e = sym c.head_of-head.ensures.0 ∙ c.if-head-eq0.true in
    record {
      sums = rw (links_empty c.args.book.now c.args.k e);
      n_is = sym (cells_empty c.args.book.now c.args.k e);
      few = omega arith;
    }

-- the head's record stands in its chain
stands : (m : Else-head-eq0) → Standing m.args.book.now 120 m.args.k m.head_of-head.result
stands m =
    let b = m.args.book.now in
    let k = m.args.k in
    let head = m.head_of-head in
    chain_standing b k _ head.result
    (head_chain b m.requires.1 k m.requires.2 head.result _ head.ensures.0 m.if-head-eq0.false refl) (omega arith)

pub read_rows-requires : goal.read_rows-requires
read_rows-requires c =
    (c.requires.0, c.requires.1, c.requires.2, stands (goal.at.read_rows-requires c).Else-head-eq0)

pub add_cells-requires : goal.add_cells-requires
add_cells-requires c =
    let p = c.requires in
    (p.1, stands (goal.at.add_cells-requires c).Else-head-eq0, c.read_rows.ensures, p.3, p.4)

pub returns : goal.returns
unfolding held_in
returns c =
    let b = c.args.book.now in
    let head_is = c.head_of-head.ensures.0 in
    let e = c.add_cells.ensures in
    record {
      sums = e.sums ∙ ap (λ (i : ℕ). added_all (amount_in b c.args.which) (links_from b i 121) c.args.sums.now)
          head_is;
      n_is = e.n_is ∙ ap (λ (i : ℕ). held_from b i 121) head_is;
      few = e.few;
    }
