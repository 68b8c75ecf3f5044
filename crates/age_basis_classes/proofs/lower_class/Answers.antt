-- `age_basis_classes::lower_class` meets its contract: one store, of one less than the byte read at the same place.
-- Assumes nothing.
use native.Mathlib.Omega.{arith}
use Rattle.book.specs.Layout.{class_of}
use Rattle.age_basis_classes.proofs.Lowering.{lowered_one}
use Rattle.age_basis_classes.proofs.lower_class.Goals as goal

pub overflow_sub-out : goal.overflow_sub-out
unfolding class_of
overflow_sub-out c = rw c.record_at-at.ensures c.requires.1

pub returns : goal.returns
returns c =
    rw c.record_at-at.ensures
    (lowered_one c.args.book.now c.args.i c.args.out.now c.requires.0.0 (omega (arith, c.requires)))
