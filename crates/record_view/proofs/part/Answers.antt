-- `record_view::part` meets its contract: the part is taken where it lies in the book, else none at its beginning.
-- Assumes nothing.
use mathlib.Core.Path.{◌≡◌, refl, ap}
use native.Mathlib.Omega.{arith}
use mathlib.Core.Bool.{true, false}
use Prim.Native.Nat.{ℕ}
use native.Mathlib.Nat.{add-sub_cancel_left}
use borrow.Author.Tests.{le-leb, lt-leb}
use lib.ListN.{take, drop}
use Rattle.record_view.specs.RecordView.{lies_in}
use Rattle.record_view.proofs.part.Goals as goal

pub returns-then-len-book : goal.returns-then-len-book
unfolding lies_in
returns-then-len-book c =
    let a = c.args in
    let lies : lies_in a.book.now a.start a.len ≡ true =
    rw (le-leb _ _ c.if-start-book.true, le-leb _ _ c.if-len-book.true) in
    record {
      bytes = simp lies
          (ap (λ (k : ℕ). take k (drop a.start a.book.now)) (add-sub_cancel_left a.start a.len));
      stands = (refl, simp lies (omega arith));
    }

pub returns-else-len-book : goal.returns-else-len-book
unfolding lies_in
returns-else-len-book c =
    let a = c.args in
    let lies : lies_in a.book.now a.start a.len ≡ false =
    rw (le-leb _ _ c.if-start-book.true, lt-leb _ _ c.if-len-book.false) in
    record { bytes = simp lies; stands = (refl, simp lies (omega arith)) }

pub returns-else-start-book : goal.returns-else-start-book
unfolding lies_in
returns-else-start-book c =
    let a = c.args in
    let lies : lies_in a.book.now a.start a.len ≡ false = rw (lt-leb _ _ c.if-start-book.false) in
    record { bytes = simp lies; stands = (refl, simp lies (omega arith)) }
